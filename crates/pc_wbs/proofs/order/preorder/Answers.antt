use Rattle.std.proofs.Common.{arith, Some, None}
use Rattle.pc_wbs.proofs.OrderLaws.{IsFront, IsFront-none, IsFront-more, IsFront-room, IsPreorder-front}
use Rattle.pc_wbs.proofs.order.preorder.Goals as goal

pub loop-next-init : goal.loop-next-init
loop-next-init c =
    rw c.in_ok-order.ensures.items (IsFront-none c.args.rows.now c.args.top c.requires.in_range c.requires.tree c.requires.top)

pub loop-next-smaller : goal.loop-next-smaller
loop-next-smaller c =
    let front : IsFront c.args.rows.now c.loop-next.order.items (Some c.in-Some.item) = rw c.in-Some.is at c.loop-next.invariant in
    let room = IsFront-room c.args.rows.now c.loop-next.order.items c.in-Some.item c.requires.tree front in
    omega (arith, c.in_ok-push.ensures.len, c.loop-next.order.ok.0)

pub loop-next-preserved : goal.loop-next-preserved
loop-next-preserved c =
    let front : IsFront c.args.rows.now c.loop-next.order.items (Some c.in-Some.item) = rw c.in-Some.is at c.loop-next.invariant in
    rw c.in_ok-push.ensures.items (IsFront-more c.args.rows.now c.loop-next.order.items c.in-Some.item c.next_after-next.result front c.next_after-next.ensures)

pub returns : goal.returns
returns c =
    let front : IsFront c.args.rows.now c.loop-next.order.items None = rw c.in_default.is at c.loop-next.invariant in
    IsPreorder-front c.args.rows.now c.loop-next.order.items c.requires.in_range c.requires.tree front
