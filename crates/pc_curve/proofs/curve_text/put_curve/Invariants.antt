use Rattle.std.proofs.Common.{◌+◌, ◌≤◌}
use Rattle.pc_edges.specs.inside.page.Puts.{desk}
use Rattle.pc_flow.specs.Courses.{IsFurther, most_looks}
use Rattle.pc_curve.proofs.TextLaws.{ArePutTo, still_to_come}
use Rattle.pc_curve.proofs.curve_text.put_curve.Given as goal

abbrev pub invariant-loop-point : goal.invariant-loop-point
invariant-loop-point g l = record {
  put : ArePutTo l.initial.solver l.breaks l.solver (desk g.O.Sink.taken g.O.Sink.faults l.initial.page l.initial.sink)
      (desk g.O.Sink.taken g.O.Sink.faults l.page l.sink);
  further : IsFurther l.initial.solver l.solver;
  counted : l.steps ≤ l.initial.steps + most_looks l.initial.solver l.solver;
}

abbrev pub decreases-loop-point : goal.decreases-loop-point
decreases-loop-point g l = still_to_come l.solver l.breaks
