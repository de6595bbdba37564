use Rattle.std.proofs.Common.{◌≡◌, ◌<◌, ◌-◌, ◌+◌, length, slice_index, sym, ◌∙◌, subst, arith}
use Rattle.std.proofs.lemmas.List.{get_or_read}
use Rattle.pc_net.specs.inside.Sides.{events_of}
use Rattle.pc_net.specs.inside.Chains.{AreChains}
use Rattle.pc_net.proofs.SideLaws.{events_of_at, length-events_of, event_known}
use Rattle.pc_net.proofs.ChainLaws.{AreChains-start, AreChains-step}
use Rattle.pc_net.proofs.listing.chained.Goals as goal

pub index-requires : goal.index-requires
index-requires c =
    omega (arith, c.loop-i.invariant.heads_len, c.loop-i.heads.ok.0, c.event_of-event.ensures, event_known c.args.side c.args.arcs.now c.args.events (c.loop-i.i - 1) c.requires.in_range (omega arith))

pub index_mut-requires-in-loop-i : goal.index_mut-requires-in-loop-i
index_mut-requires-in-loop-i c =
    omega (arith, c.loop-i.invariant.heads_len, c.loop-i.heads.ok.0, c.event_of-event.ensures, event_known c.args.side c.args.arcs.now c.args.events (c.loop-i.i - 1) c.requires.in_range (omega arith))

pub loop-i-preserved : goal.loop-i-preserved
loop-i-preserved c =
    let xs = events_of c.args.side c.args.arcs.now in
    let i = c.loop-i.i - 1 in
    let x = c.event_of-event.result in
    let below : i < length xs = omega (arith, length-events_of c.args.side c.args.arcs.now) in
    let is : slice_index xs i ≡ x = events_of_at c.args.side c.args.arcs.now i (omega arith) ∙ sym c.event_of-event.ensures in
    let known : x < c.args.events = omega (arith, c.event_of-event.ensures, event_known c.args.side c.args.arcs.now c.args.events i c.requires.in_range (omega arith)) in
    let here : AreChains xs c.args.events (i + 1) c.loop-i.heads.items c.loop-i.nexts.items =
    subst (λ n. AreChains xs c.args.events n c.loop-i.heads.items c.loop-i.nexts.items) (omega arith) c.loop-i.invariant in
    let read : c.index.result.now ≡ slice_index c.loop-i.heads.items x = get_or_read c.loop-i.heads.items x _ (omega (arith, c.loop-i.invariant.heads_len)) c.index.ensures 0 in
    rw read (AreChains-step xs c.args.events i x c.loop-i.heads.items c.loop-i.nexts.items here below is known)

pub loop-i-init : goal.loop-i-init
loop-i-init c =
    let arcs = c.args.arcs.now in
    rw (c.in_ok-heads.ensures.items_if_clones_equal (λ y e. e), c.in_ok-nexts.ensures.items_if_clones_equal (λ y e. e))
    (AreChains-start (events_of c.args.side arcs) c.args.events (length arcs) (sym (length-events_of c.args.side arcs)))

pub returns : goal.returns
returns c =
    subst (λ n. AreChains (events_of c.args.side c.args.arcs.now) c.args.events n c.loop-i.heads.items c.loop-i.nexts.items)
    (omega (arith, c.loop-i-test.false)) c.loop-i.invariant
