use Rattle.pc_wbs.specs.inside.Ends.{AreEnds}
use Rattle.pc_wbs.proofs.loops.parents.Given as goal

abbrev pub invariant-loop-item : goal.invariant-loop-item
invariant-loop-item l = AreEnds l.rows l.item 1 l.parents.items
