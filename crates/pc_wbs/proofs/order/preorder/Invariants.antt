use Rattle.std.proofs.Common.{◌-◌, length, vec_len}
use Rattle.pc_wbs.proofs.OrderLaws.{IsFront}
use Rattle.pc_wbs.proofs.order.preorder.Given as goal

abbrev pub invariant-loop-next : goal.invariant-loop-next
invariant-loop-next l = IsFront l.rows l.order.items l.next

abbrev pub decreases-loop-next : goal.decreases-loop-next
decreases-loop-next l = length l.rows - vec_len l.order
