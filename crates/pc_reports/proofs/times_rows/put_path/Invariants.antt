use Rattle.std.proofs.Common.{◌≡◌, ◌-◌, ◌*◌, ◌≤◌, length, take}
use Rattle.pc_edges.specs.Texts.{texts_to}
use Rattle.pc_model.specs.Walk.{walk_sum}
use Rattle.pc_model.specs.declared.limits.TheConstants.{MAX_VARIANCE}
use Rattle.pc_edges.specs.inside.page.Puts.{Puts}
use Rattle.pc_reports.specs.TimesText.{critical_row}
use Rattle.pc_reports.specs.inside.View.{as_shown}
use Rattle.pc_reports.proofs.times_rows.put_path.Given as goal

abbrev pub invariant-loop-a : goal.invariant-loop-a
invariant-loop-a g l = record {
  put :
      Puts g.O.Sink.taken g.O.Sink.faults l.initial.page l.initial.sink l.page l.sink
      (texts_to l.k (critical_row (as_shown l.project (g.V.TimesView.shown l.view)) (g.V.TimesView.shown l.view).times));
  within : l.k ≤ length (g.V.TimesView.shown l.view).times.path;
  summed : l.variance ≡ walk_sum (g.V.TimesView.shown l.view).variances (take l.k (g.V.TimesView.shown l.view).times.path);
  small : l.variance ≤ l.k * MAX_VARIANCE;
}

abbrev pub decreases-loop-a : goal.decreases-loop-a
decreases-loop-a g l = length (g.V.TimesView.shown l.view).times.path - l.k
