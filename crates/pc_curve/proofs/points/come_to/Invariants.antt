use Rattle.std.proofs.Common.{◌+◌, ◌≤◌}
use Rattle.pc_flow.specs.Courses.{IsSameCurve, IsFurther, most_looks}
use Rattle.pc_curve.specs.inside.Points.{IsToCome}
use Rattle.pc_curve.proofs.ComeLaws.{left}
use Rattle.pc_curve.proofs.points.come_to.Given as goal

abbrev pub invariant-loop-solver : goal.invariant-loop-solver
invariant-loop-solver g l = record {
  same : IsSameCurve l.initial.solver l.solver;
  further : IsFurther l.initial.solver l.solver;
  to_come : IsToCome l.solver l.length;
  counted : l.steps ≤ l.initial.steps + most_looks l.initial.solver l.solver;
}

-- the first segment comes, and then each comes further down
abbrev pub decreases-loop-solver : goal.decreases-loop-solver
decreases-loop-solver g l = left l.solver
