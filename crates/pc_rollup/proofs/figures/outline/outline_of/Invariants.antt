use Rattle.pc_rollup.proofs.lemmas.figures.OutlineLaws.{AreRowsTo}
use Rattle.pc_rollup.proofs.figures.outline.outline_of.Given as goal

abbrev pub invariant-loop-item : goal.invariant-loop-item
invariant-loop-item l = AreRowsTo l.tree l.item-items l.item-index l.outline.items
