use Rattle.pc_times.proofs.ForecastLaws.{AreLastTo}
use Rattle.pc_times.proofs.forecasts.event_times.Given as goal

abbrev pub invariant-loop-event : goal.invariant-loop-event
invariant-loop-event l =
    AreLastTo l.net l.lengths l.states l.as_of l.times.items l.event-items l.event-index
