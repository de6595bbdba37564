use Rattle.std.proofs.Common.{◌≡◌, ◌-◌, ◌<◌, length, take}
use Rattle.pc_times.proofs.PickedLaws.{IsPickedTo}
use Rattle.pc_times.proofs.path.critical_path_into.Given as goal

abbrev pub invariant-loop-a : goal.invariant-loop-a
invariant-loop-a l = record {
  places : length l.path ≡ l.net.events;
  within : l.count < length l.path;
  picked : IsPickedTo l.net l.lengths l.times l.tails (take l.count l.path) l.event;
}

abbrev pub decreases-loop-a : goal.decreases-loop-a
decreases-loop-a l = l.net.events - l.count
