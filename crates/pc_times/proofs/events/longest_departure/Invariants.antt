use Rattle.std.proofs.Common.{◌+◌, slice_index}
use Rattle.pc_model.specs.Walk.{to_of}
use Rattle.pc_times.proofs.GreatestLaws.{IsGreatestOf}
use Rattle.pc_times.proofs.events.longest_departure.Given as goal

abbrev pub invariant-loop-a : goal.invariant-loop-a
invariant-loop-a l = IsGreatestOf (λ a. slice_index l.lengths a + slice_index l.tails (to_of l.net.arcs a)) l.a-items l.a-index l.longest
