use Rattle.std.proofs.Common.{arith}
use Rattle.pc_flow.specs.inside.Paces.{durations_at}
use Rattle.pc_flow.proofs.EarlyTimes.{early-before, early-more, early-all, small_times, durations-short}
use Rattle.pc_flow.proofs.early.keep_early_times.Goals as goal

pub latest_arrival-time-requires-clause-small : goal.latest_arrival-time-requires-clause-small
latest_arrival-time-requires-clause-small c =
    let order = rw c.net.ensures.network at c.order-e-items.ensures in
    let priced = c.facts.ensures.priced in
    small_times c.args.net.now.network c.order-e-items.result.now (durations_at c.args.net.now.terms c.args.pace) order.in_range order.sound order.order
    c.facts.ensures.events (durations-short c.args.net.now.network c.args.net.now.terms c.args.pace priced.terms_fit c.facts.ensures.limits)

pub latest_arrival-time-requires-clause-before : goal.latest_arrival-time-requires-clause-before
latest_arrival-time-requires-clause-before c =
    let order = rw c.net.ensures.network at c.order-e-items.ensures in
    early-before c.args.net.now.network
    (durations_at c.args.net.now.terms c.args.pace) c.order-e-items.result.now order.order c.args.board.now c.loop-e.board
    c.loop-e.e-index c.loop-e.invariant (omega arith)

pub loop-e-preserved : goal.loop-e-preserved
loop-e-preserved c =
    let order = rw c.net.ensures.network at c.order-e-items.ensures in
    early-more c.args.net.now.network
    (durations_at c.args.net.now.terms c.args.pace) c.order-e-items.result.now order.order c.args.board.now c.loop-e.board _
    c.loop-e.e-index _ c.loop-e.invariant (omega arith) c.latest_arrival-time.ensures c.set_time.ensures

pub returns-clause-times : goal.returns-clause-times
returns-clause-times c =
    let order = rw c.net.ensures.network at c.order-e-items.ensures in
    early-all c.args.net.now.network
    (durations_at c.args.net.now.terms c.args.pace) c.order-e-items.result.now order.order c.args.board.now c.loop-e.board
    c.loop-e.e-index c.loop-e.invariant (omega arith)

pub returns-clause-limit : goal.returns-clause-limit
returns-clause-limit c =
    let order = rw c.net.ensures.network at c.order-e-items.ensures in
    let priced = c.facts.ensures.priced in
    let small = small_times c.args.net.now.network c.order-e-items.result.now (durations_at c.args.net.now.terms c.args.pace) order.in_range order.sound order.order
    c.facts.ensures.events (durations-short c.args.net.now.network c.args.net.now.terms c.args.pace priced.terms_fit c.facts.ensures.limits) in
    λ e known.
    small.fits e _ known (early-all c.args.net.now.network
    (durations_at c.args.net.now.terms c.args.pace) c.order-e-items.result.now order.order c.args.board.now c.loop-e.board
    c.loop-e.e-index c.loop-e.invariant (omega arith) e known)
