use Rattle.std.proofs.Common.{slice_index}
use Rattle.pc_net.proofs.QueueLaws.{IsCrossing}
use Rattle.pc_net.proofs.ordering.cross.Given as goal

abbrev pub invariant-loop-a : goal.invariant-loop-a
invariant-loop-a l =
    IsCrossing l.graph l.order.items l.missing.items l.at (slice_index l.initial.order.items l.at) l.a-items l.a-index
