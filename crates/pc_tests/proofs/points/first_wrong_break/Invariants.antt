use Rattle.pc_curve.specs.inside.Breaks.{StandsBy}
use Rattle.pc_tests.proofs.points.first_wrong_break.Given as goal

abbrev pub invariant-loop-i : goal.invariant-loop-i
invariant-loop-i g l = StandsBy l.breaks l.solver
