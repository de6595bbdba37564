use Rattle.std.proofs.Common.{arith}
use Rattle.pc_times.proofs.TimesLaws.{has_bounded_walks, early_before, early_more, early_all}
use Rattle.pc_times.proofs.LateLaws.{early_limit}
use Rattle.pc_times.proofs.events.early_into.Goals as goal

pub latest_arrival-requires-clause-walks : goal.latest_arrival-requires-clause-walks
latest_arrival-requires-clause-walks c =
    let order = c.order-event-items.ensures in
    has_bounded_walks _ _ _ order.in_range order.sound order.order (omega arith) c.requires.lengths

pub latest_arrival-requires-clause-before : goal.latest_arrival-requires-clause-before
latest_arrival-requires-clause-before c =
    (early_before _ _ _ _ _ c.order-event-items.ensures.order c.loop-event.invariant (omega arith))

pub loop-event-preserved : goal.loop-event-preserved
loop-event-preserved c =
    early_more _ _ _ _ _ _ c.order-event-items.ensures.order c.loop-event.invariant (omega arith) c.latest_arrival.ensures

pub returns-clause-times : goal.returns-clause-times
returns-clause-times c =
    early_all _ _ _ _ _ c.order-event-items.ensures.order c.loop-event.invariant (omega arith)

pub returns-clause-limit : goal.returns-clause-limit
returns-clause-limit c =
    let order = c.order-event-items.ensures in
    let walks = has_bounded_walks _ _ _ order.in_range order.sound order.order (omega arith) c.requires.lengths in
    early_limit c.args.net.now c.args.lengths.now _ walks (early_all _ _ _ _ _ order.order c.loop-event.invariant (omega arith))

pub returns-clause-walks : goal.returns-clause-walks
returns-clause-walks c =
    let order = c.order-event-items.ensures in
    has_bounded_walks _ _ _ order.in_range order.sound order.order (omega arith) c.requires.lengths
