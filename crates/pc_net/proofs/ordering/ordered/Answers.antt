use Rattle.std.proofs.Common.{◌≡◌, length, slice_index, subst, arith}
use Rattle.pc_model.specs.inside.Greatest.{IsListed}
use Rattle.pc_model.proofs.Walks.OrderLaws.{room_below}
use Rattle.pc_net.proofs.QueueLaws.{IsQueue-start, IsBlocked-end}
use Rattle.pc_net.proofs.ordering.ordered.Goals as goal

pub loop-at-init : goal.loop-at-init
loop-at-init c =
    let counts = c.in_ok-missing.missing.items in
    let listed : IsListed (λ v. slice_index counts v ≡ 0) (length counts) c.in_ok-order.order.items =
    subst (λ xs. IsListed (λ v. slice_index xs v ≡ 0) (length xs) c.in_ok-order.order.items) c.deref.ensures.value c.in_ok-order.ensures
    in
    IsQueue-start c.args.graph.now counts c.in_ok-order.order.items c.in_ok-missing.ensures.counts listed

pub loop-at-smaller : goal.loop-at-smaller
loop-at-smaller c =
    let part = c.loop-at.invariant.1.1.part in
    omega (arith, room_below c.loop-at.order.items c.args.graph.now.events part.range part.once, c.loop-at.order.ok.0, c.len.ensures)

pub returns-clause-blocked : goal.returns-clause-blocked
returns-clause-blocked c =
    IsBlocked-end c.args.graph.now c.loop-at.order.items c.loop-at.missing.items c.loop-at.at c.loop-at.invariant (omega (arith, c.loop-at.order.ok.0, c.len.ensures))
