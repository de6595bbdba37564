use Rattle.std.proofs.Common.{length, ap, arith}
use Rattle.pc_faults.specs.declared.kind.Kind.TheVariants.{Wbs}
use Rattle.pc_tasks.proofs.tree.item_row.Goals as goal

pub overflow_cast-parent : goal.overflow_cast-parent
overflow_cast-parent c = omega (arith, ap length c.items.ensures.cards, (c.items.ensures.within Wbs).few)
