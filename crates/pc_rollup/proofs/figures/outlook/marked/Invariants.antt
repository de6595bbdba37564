use Rattle.pc_rollup.specs.inside.figures.OutlookParts.{AreMarked}
use Rattle.pc_rollup.proofs.figures.outlook.marked.Given as goal

abbrev pub invariant-loop-a : goal.invariant-loop-a
invariant-loop-a l = AreMarked l.fn.items l.places l.a l.marks.items
