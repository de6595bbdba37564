use Rattle.std.proofs.Common.{◌+◌, ◌≤◌}
use Rattle.pc_flow.specs.Courses.{IsFurther, IsSameCurve, lower_of, most_looks}
use Rattle.pc_curve.proofs.lemmas.bench.TallyLaws.{IsTallied}
use Rattle.pc_curve.proofs.bench.figures.figures_of.Given as goal

abbrev pub invariant-loop-solver : goal.invariant-loop-solver
invariant-loop-solver g l = record {
  tallied : IsTallied l.fn.solver.net l.longest l.shortest l.solver l.tally;
  same : IsSameCurve l.fn.solver l.solver;
  further : IsFurther l.fn.solver l.solver;
  counted : l.steps ≤ l.fn.steps + most_looks l.fn.solver l.solver;
}

-- each segment comes further down
abbrev pub decreases-loop-solver : goal.decreases-loop-solver
decreases-loop-solver g l = lower_of l.solver
