use Rattle.std.proofs.Common.{slice_index, ap, arith}
use Rattle.pc_model.specs.Walk.{from_of}
use Rattle.pc_times.specs.inside.Passes.{HasNoSlack}
use Rattle.pc_times.proofs.PickedLaws.{first_listed}
use Rattle.pc_times.proofs.path.first_without_slack.Goals as goal

pub overflow_add-times : goal.overflow_add-times
overflow_add-times c =
    let a = slice_index c.out_arcs-a-items.result.now c.loop-a.a-index in
    let (in_arcs, begins) = c.out_arcs-a-items.ensures.listed.each c.loop-a.a-index (omega arith) in
    let time = c.requires.walks.fits _ _ _ c.requires.event (c.requires.times.each c.args.event c.requires.event).attained in
    omega (arith, c.requires.walks.few, time, c.requires.lengths.small a in_arcs)

pub overflow_add-times-in-loop-a : goal.overflow_add-times-in-loop-a
overflow_add-times-in-loop-a c =
    let a = slice_index c.out_arcs-a-items.result.now c.loop-a.a-index in
    let (in_arcs, begins) = c.out_arcs-a-items.ensures.listed.each c.loop-a.a-index (omega arith) in
    let time = c.requires.walks.fits _ _ _ c.requires.event (c.requires.times.each c.args.event c.requires.event).attained in
    let tail = c.requires.walks.fits _ _ _ c.requires.walks.ranged.end_in (c.requires.tails.each _ (c.requires.walks.ranged.to_in a in_arcs)).attained in
    omega (arith, c.requires.walks.few, time, tail, c.requires.lengths.small a in_arcs, ap (slice_index c.args.tails.now) c.to.ensures.event)

pub returns-then-times-event-clause-found : goal.returns-then-times-event-clause-found
returns-then-times-event-clause-found c =
    let (in_arcs, begins) = c.out_arcs-a-items.ensures.listed.each c.loop-a.a-index (omega arith) in
    first_listed (HasNoSlack c.args.net.now c.args.lengths.now c.args.times.now c.args.tails.now c.args.event) _ _ _
    (from_of c.args.net.now.arcs) _ (λ a met. (met.0, met.1)) c.out_arcs-a-items.ensures.listed (omega arith)
    (in_arcs, begins, omega (arith, c.loop-a.invariant.end_time, ap (slice_index c.args.tails.now) c.to.ensures.event))
    c.loop-a.invariant.none
