use Rattle.pc_edges.specs.Texts.{texts_to}
use Rattle.pc_edges.specs.inside.page.Puts.{Puts}
use Rattle.pc_reports.specs.TimesText.{event_row}
use Rattle.pc_reports.specs.inside.View.{as_shown}
use Rattle.pc_reports.proofs.times_rows.put_events.Given as goal

abbrev pub invariant-loop-e : goal.invariant-loop-e
invariant-loop-e g l =
    Puts g.O.Sink.taken g.O.Sink.faults l.initial.page l.initial.sink l.page l.sink
    (texts_to l.e (event_row (as_shown l.project (g.V.TimesView.shown l.view)) (g.V.TimesView.shown l.view).times))
