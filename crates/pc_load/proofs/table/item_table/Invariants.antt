use Rattle.pc_load.proofs.ItemLaws.{AreRolledTo}
use Rattle.pc_load.proofs.table.item_table.Given as goal

abbrev pub invariant-loop-k : goal.invariant-loop-k
invariant-loop-k l = AreRolledTo l.tree l.leaves l.k l.cells.items
