use Rattle.std.proofs.Common.{ℕ, ◌+◌, slice_index, ap, arith}
use Rattle.pc_model.proofs.Walks.PlaceLaws.{ord_max-nat}
use Rattle.pc_times.proofs.GreatestLaws.{greatest_more, greatest_all}
use Rattle.pc_times.proofs.TimesLaws.{early_from_arrival}
use Rattle.pc_times.proofs.events.latest_arrival.Goals as goal

pub overflow_add-times : goal.overflow_add-times
overflow_add-times c =
    let a = slice_index c.in_arcs-a-items.result.now c.loop-a.a-index in
    let (in_arcs, ends) = c.in_arcs-a-items.ensures.listed.each c.loop-a.a-index (omega arith) in
    let before = (c.requires.before.each a in_arcs ends).attained in
    let below = c.requires.walks.ranged.from_in a in_arcs in
    omega (arith, c.requires.walks.few, c.requires.walks.fits _ _ _ below before, c.requires.lengths.small a in_arcs, ap (slice_index c.args.times.now) c.from.ensures.event)

pub loop-a-preserved : goal.loop-a-preserved
loop-a-preserved c =
    let a = slice_index c.in_arcs-a-items.result.now c.loop-a.a-index in
    rw (c.max-latest.ensures, ord_max-nat) (greatest_more _ _ _ _ _ c.loop-a.invariant (ap (λ (e : ℕ). slice_index c.args.times.now e + slice_index c.args.lengths.now a) c.from.ensures.event))

pub returns : goal.returns
returns c =
    let items = c.in_arcs-a-items.result.now in
    let all = greatest_all _ _ _ items _ _ c.in_arcs-a-items.ensures.listed (omega arith) c.loop-a.invariant in
    early_from_arrival c.args.net.now c.requires.walks.sound _ _ _ _ c.requires.before.in_range c.requires.before.each all
