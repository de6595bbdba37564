use Rattle.pc_edges.specs.Texts.{texts_to}
use Rattle.pc_edges.specs.inside.page.Puts.{Puts}
use Rattle.pc_reports.specs.TimesText.{activity_row}
use Rattle.pc_reports.specs.inside.View.{as_shown}
use Rattle.pc_reports.proofs.times_rows.put_activities.Given as goal

abbrev pub invariant-loop-i : goal.invariant-loop-i
invariant-loop-i g l =
    Puts g.O.Sink.taken g.O.Sink.faults l.initial.page l.initial.sink l.page l.sink
    (texts_to l.i (activity_row (as_shown l.project (g.V.TimesView.shown l.view)) (g.V.TimesView.shown l.view).times))
