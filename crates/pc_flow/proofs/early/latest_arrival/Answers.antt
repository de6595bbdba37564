use Rattle.std.proofs.Common.{◌≡◌, length, ap, subst, arith}
use Rattle.pc_model.proofs.Walks.PlaceLaws.{ord_max-nat}
use Rattle.pc_flow.specs.board.Sheets.{kept_time}
use Rattle.pc_flow.specs.inside.Paces.{durations_at}
use Rattle.pc_flow.proofs.EarlyTimes.{IsArrivalOf, arrival-more, early-from_arrival}
use Rattle.pc_flow.proofs.early.latest_arrival.Goals as goal

pub overflow_add-kept_time : goal.overflow_add-kept_time
overflow_add-kept_time c =
    let small = c.requires.small in
    let listed = rw c.net-shape.ensures.network at c.in_arcs-a-items.ensures.listed in
    let (known, ends) = listed.each c.loop-a.a-index (omega arith) in
    let event = rw c.net-shape.ensures.network at c.from.ensures.event in
    omega (
      arith,
      small.fits _ _ (small.range.from_in _ known) (c.requires.before.each _ known ends),
      small.short _ known,
      ap (kept_time c.args.board.now) event,
      c.duration.ensures,
      c.kept_time.ensures,
    )

pub loop-a-preserved : goal.loop-a-preserved
loop-a-preserved c =
    let event = rw c.net-shape.ensures.network at c.from.ensures.event in
    rw (c.max-latest.ensures, ord_max-nat)
    (arrival-more c.args.net.now.network (durations_at c.args.net.now.terms c.args.pace)
    (kept_time c.args.board.now) _ _ _ _ c.loop-a.invariant
    (omega (arith, c.kept_time.ensures, c.duration.ensures, ap (kept_time c.args.board.now) event)))

pub returns : goal.returns
returns c =
    let items = c.in_arcs-a-items.result.now in
    let all : c.loop-a.a-index ≡ length items = omega arith in
    let listed = rw c.net-shape.ensures.network at c.in_arcs-a-items.ensures.listed in
    early-from_arrival c.args.net.now.network (durations_at c.args.net.now.terms c.args.pace) (kept_time c.args.board.now)
    c.requires.small.sound c.args.e c.loop-a.latest c.requires.before items listed
    (subst (λ k. IsArrivalOf c.args.net.now.network (durations_at c.args.net.now.terms c.args.pace) (kept_time c.args.board.now) items k c.loop-a.latest) all c.loop-a.invariant)
