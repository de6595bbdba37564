use Rattle.std.proofs.Common.{◌+◌, slice_index}
use Rattle.pc_model.specs.Walk.{from_of}
use Rattle.pc_times.proofs.GreatestLaws.{IsGreatestOf}
use Rattle.pc_times.proofs.events.latest_arrival.Given as goal

abbrev pub invariant-loop-a : goal.invariant-loop-a
invariant-loop-a l = IsGreatestOf (λ a. slice_index l.times (from_of l.net.arcs a) + slice_index l.lengths a) l.a-items l.a-index l.latest
