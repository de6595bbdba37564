use Rattle.pc_rollup.specs.inside.figures.Packages.{AreProgress}
use Rattle.pc_rollup.proofs.figures.worth.progress_of.Given as goal

abbrev pub invariant-loop-a : goal.invariant-loop-a
invariant-loop-a l = AreProgress l.fn.items l.places l.states l.a l.progress.items
