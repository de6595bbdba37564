use Rattle.std.proofs.Common.{◌≡◌, slice_index, sym, ◌∙◌, ap, arith}
use Rattle.std.proofs.lemmas.List.{get_or_read}
use Rattle.pc_net.proofs.SideLaws.{listed_where_read}
use Rattle.pc_net.proofs.LabelLaws.{IsSpreading-skip, IsSpreading-push, IsSpreading-end}
use Rattle.pc_net.proofs.components.cross.Goals as goal
use Rattle.pc_net.proofs.components.cross.Goals.{then-index-eq0+in_ok-push, else-index-eq0}

pub loop-a-preserved : goal.loop-a-preserved
loop-a-preserved c =
    let net = c.args.graph.now in
    let reached = c.loop-a.reached.items in
    let labels = c.loop-a.labels.items in
    let spreading = c.loop-a.invariant in
    let next = c.to-next.result in
    let read : c.index-in-loop-a.result.now ≡ slice_index labels next = get_or_read labels next _ (omega (arith, c.to-next.ensures.known, spreading.spread.labels_len)) c.index-in-loop-a.ensures 0 in
    elim c.if-index-eq0.branch [
      | then-index-eq0+in_ok-push w ↦
          rw (w.reached-is, w.labels-is) (rw w.in_ok-push.ensures.items
          (IsSpreading-push net c.args.label reached labels c.args.at _ _ c.loop-a.a-index next spreading
          (sym c.to-next.ensures.event) c.to-next.ensures.known (sym read ∙ w.if-index-eq0.true)))
      | else-index-eq0 w ↦ rw (w.reached-is, w.labels-is)
          (IsSpreading-skip net c.args.label reached labels c.args.at _ _ c.loop-a.a-index spreading
          (λ none. w.if-index-eq0.false (read ∙ ap (slice_index labels) c.to-next.ensures.event ∙ none)))
    ]

pub returns : goal.returns
returns c =
    let net = c.args.graph.now in
    let listed = listed_where_read net c.args.reached.now.items c.args.at _ _ c.requires.queued c.index.ensures c.out_arcs-a-items.ensures.listed in
    record { spread = IsSpreading-end net c.args.label c.loop-a.reached.items c.loop-a.labels.items c.args.at _ _ c.loop-a.a-index listed c.loop-a.invariant (omega (arith, c.loop-a-test.false)) }
