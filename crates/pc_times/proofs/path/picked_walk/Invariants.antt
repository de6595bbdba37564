use Rattle.std.proofs.Common.{◌-◌, length}
use Rattle.pc_times.proofs.PickedLaws.{IsPickedTo}
use Rattle.pc_times.proofs.path.picked_walk.Given as goal

abbrev pub invariant-loop-a : goal.invariant-loop-a
invariant-loop-a l = IsPickedTo l.net l.lengths l.times l.tails l.path.items l.event

abbrev pub decreases-loop-a : goal.decreases-loop-a
decreases-loop-a l = l.net.events - length l.path.items
