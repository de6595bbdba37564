use Rattle.std.proofs.Common.{arith}
use Rattle.pc_times.proofs.ForecastLaws.{last_step, last_times, forecast_only}
use Rattle.pc_times.proofs.forecasts.event_times.Goals as goal

pub loop-event-preserved : goal.loop-event-preserved
loop-event-preserved c =
    let last = c.last_finish.ensures in
    last_step _ _ _ _ _ _ _ _ c.order-event-items.ensures.order c.requires.lengths c.requires.states c.requires.as_of c.loop-event.invariant c.loop-event-test.true (rw c.deref.ensures.value at last)

pub returns-clause-times : goal.returns-clause-times
returns-clause-times c =
    last_times _ _ _ _ _ _ _ (omega (arith, c.events.ensures.events, c.events.ensures.limit)) c.order-event-items.ensures.order (omega arith) c.loop-event.invariant

pub returns-clause-only : goal.returns-clause-only
returns-clause-only c = λ one other first second.
    forecast_only c.args.net.now c.args.lengths.now c.args.states.now c.args.as_of c.order-event-items.result.now c.order-event-items.ensures.order one other first second
