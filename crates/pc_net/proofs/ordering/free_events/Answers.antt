use Rattle.std.proofs.Common.{◌≡◌, slice_index}
use Rattle.pc_model.proofs.Walks.ListedLaws.{IsListed-push, IsListed-keep}
use Rattle.pc_net.proofs.ordering.free_events.Goals as goal
use Rattle.pc_net.proofs.ordering.free_events.Goals.{then-count-eq0+in_ok-push, else-count-eq0}

pub loop-event-preserved : goal.loop-event-preserved
loop-event-preserved c =
    elim c.if-count-eq0.branch [
      | then-count-eq0+in_ok-push w ↦
          rw (w.order-is, w.in_ok-push.ensures.items)
          (IsListed-push (λ v. slice_index c.args.missing.now v ≡ 0) c.loop-event.event c.loop-event.order.items c.loop-event.invariant
          w.if-count-eq0.true)
      | else-count-eq0 w ↦ rw w.order-is (IsListed-keep (λ v. slice_index c.args.missing.now v ≡ 0) c.loop-event.event c.loop-event.order.items c.loop-event.invariant w.if-count-eq0.false)
    ]
