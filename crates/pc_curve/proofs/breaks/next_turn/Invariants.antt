use Rattle.std.proofs.Common.{◌≡◌, ◌+◌, ◌≤◌}
use Rattle.pc_flow.specs.Courses.{lower_of, most_looks}
use Rattle.pc_flow.specs.inside.Courses.{present}
use Rattle.pc_curve.proofs.CurveLaws.{IsOnTheWay}
use Rattle.pc_curve.proofs.breaks.next_turn.Given as goal

abbrev pub invariant-loop-solver : goal.invariant-loop-solver
invariant-loop-solver g l = record {
  way : IsOnTheWay l.initial.solver l.last l.solver;
  slope : l.slope ≡ (present l.solver).slope;
  counted : l.steps ≤ l.initial.steps + most_looks l.initial.solver l.solver;
}

-- each segment comes further down
abbrev pub decreases-loop-solver : goal.decreases-loop-solver
decreases-loop-solver g l = lower_of l.solver
