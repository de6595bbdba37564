use Rattle.std.proofs.Common.{◌+◌, ◌≤◌}
use Rattle.pc_flow.specs.Courses.{most_looks}
use Rattle.pc_total.proofs.WayLaws.{HasComeDown, left}
use Rattle.pc_total.proofs.finding.come_down.Given as goal

abbrev pub invariant-loop-solver : goal.invariant-loop-solver
invariant-loop-solver g l = record {
  way : HasComeDown l.terms l.fn.solver l.solver l.gain;
  counted : l.steps ≤ l.fn.steps + most_looks l.fn.solver l.solver;
}

-- the first segment comes, and then each comes further down
abbrev pub decreases-loop-solver : goal.decreases-loop-solver
decreases-loop-solver g l = left l.solver
