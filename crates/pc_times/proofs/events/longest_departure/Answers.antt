use Rattle.std.proofs.Common.{ℕ, ◌+◌, slice_index, ap, arith}
use Rattle.pc_model.proofs.Walks.PlaceLaws.{ord_max-nat}
use Rattle.pc_times.proofs.GreatestLaws.{greatest_more, greatest_all}
use Rattle.pc_times.proofs.TimesLaws.{tail_from_departure}
use Rattle.pc_times.proofs.events.longest_departure.Goals as goal

pub overflow_add-lengths : goal.overflow_add-lengths
overflow_add-lengths c =
    let a = slice_index c.out_arcs-a-items.result.now c.loop-a.a-index in
    let (in_arcs, begins) = c.out_arcs-a-items.ensures.listed.each c.loop-a.a-index (omega arith) in
    let before = (c.requires.after.each a in_arcs begins).attained in
    omega (arith, c.requires.walks.few, c.requires.walks.fits _ _ _ c.requires.walks.ranged.end_in before, c.requires.lengths.small a in_arcs, ap (slice_index c.args.tails.now) c.to.ensures.event)

pub loop-a-preserved : goal.loop-a-preserved
loop-a-preserved c =
    let a = slice_index c.out_arcs-a-items.result.now c.loop-a.a-index in
    rw (c.max-longest.ensures, ord_max-nat) (greatest_more _ _ _ _ _ c.loop-a.invariant (ap (λ (e : ℕ). slice_index c.args.lengths.now a + slice_index c.args.tails.now e) c.to.ensures.event))

pub returns : goal.returns
returns c =
    let items = c.out_arcs-a-items.result.now in
    let all = greatest_all _ _ _ items _ _ c.out_arcs-a-items.ensures.listed (omega arith) c.loop-a.invariant in
    tail_from_departure c.args.net.now c.requires.walks.sound _ _ _ _ c.requires.after.in_range c.requires.after.each all
