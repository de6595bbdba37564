use Rattle.std.proofs.Common.{◌≡◌, ◌<◌, ◌-◌, length, slice_index, slice_set, refl, sym, ◌∙◌, arith}
use Rattle.std.proofs.lemmas.List.{get_or_read, get_or-set_same, length-set}
use Rattle.pc_net.proofs.SideLaws.{listed_where_read}
use Rattle.pc_net.proofs.QueueLaws.{IsCrossing-entered, IsCrossing-cross, IsCrossing-push, IsQueue-next}
use Rattle.pc_net.proofs.ordering.cross.Goals as goal
use Rattle.pc_net.proofs.ordering.cross.Goals.{then-index-eq0+in_ok-push, else-index-eq0}

pub overflow_sub-index_mut : goal.overflow_sub-index_mut
overflow_sub-index_mut c =
    let net = c.args.graph.now in
    let listed = listed_where_read net c.args.order.now.items c.args.at _ _ (omega (arith, c.args.order.now.ok.0)) c.index.ensures c.out_arcs-a-items.ensures.listed in
    let missing = c.loop-a.missing.items in
    let next = c.to-next.result in
    let read : c.index_mut.result.now
    ≡ slice_index missing next = get_or_read missing next _
    (omega (arith, c.to-next.ensures.known, c.loop-a.invariant.waiting.missing_len)) c.index_mut.ensures.value 0 in
    omega (
      arith,
      read,
      IsCrossing-entered net c.loop-a.order.items missing c.args.at _ _ c.loop-a.a-index listed c.loop-a.invariant
          c.loop-a-test.true _ next refl (sym c.to-next.ensures.event) c.to-next.ensures.known,
    )

pub loop-a-preserved : goal.loop-a-preserved
loop-a-preserved c =
    let net = c.args.graph.now in
    let listed = listed_where_read net c.args.order.now.items c.args.at _ _ (omega (arith, c.args.order.now.ok.0)) c.index.ensures c.out_arcs-a-items.ensures.listed in
    let missing = c.loop-a.missing.items in
    let a = slice_index c.out_arcs-a-items.result.now c.loop-a.a-index in
    let next = c.to-next.result in
    let less = c.index_mut.result.now - 1 in
    let next_in : next < length missing = omega (arith, c.to-next.ensures.known, c.loop-a.invariant.waiting.missing_len) in
    let read : c.index_mut.result.now ≡ slice_index missing next = get_or_read missing next _ next_in c.index_mut.ensures.value 0 in
    let rest : c.index-in-loop-a.result.now ≡ less =
    get_or_read (slice_set missing next less) next _ (omega (arith, length-set missing next less)) c.index-in-loop-a.ensures 0 ∙ get_or-set_same missing next less 0 next_in in
    elim c.if-index-eq0.branch [
      | then-index-eq0+in_ok-push w ↦
          rw (w.order-is, read) (rw w.in_ok-push.ensures.items
          (IsCrossing-push net c.loop-a.order.items missing c.args.at _ _ c.loop-a.a-index listed c.loop-a.invariant c.loop-a-test.true a
          next refl (sym c.to-next.ensures.event) c.to-next.ensures.known (omega (arith, rest, read, w.if-index-eq0.true))))
      | else-index-eq0 w ↦ rw (w.order-is, read)
          (IsCrossing-cross net c.loop-a.order.items missing c.args.at _ _ c.loop-a.a-index listed c.loop-a.invariant c.loop-a-test.true a
          next refl (sym c.to-next.ensures.event) c.to-next.ensures.known (λ none. w.if-index-eq0.false (omega (arith, rest, read, none))))
    ]

pub returns : goal.returns
returns c =
    let net = c.args.graph.now in
    let listed = listed_where_read net c.args.order.now.items c.args.at _ _ (omega (arith, c.args.order.now.ok.0)) c.index.ensures c.out_arcs-a-items.ensures.listed in
    record { queue = IsQueue-next net c.loop-a.order.items c.loop-a.missing.items c.args.at _ _ c.loop-a.a-index listed c.loop-a.invariant (omega (arith, c.loop-a-test.false)) }
