use Rattle.std.proofs.Common.{◌≡◌, ℕ, ◌<◌, slice_index}
use Rattle.pc_model.specs.Schedule.{lesser_of}
use Rattle.pc_curve.proofs.points.read_durations.Given as goal

abbrev pub invariant-loop-a : goal.invariant-loop-a
invariant-loop-a l = (k : ℕ) → k < l.a → slice_index l.durations k ≡ lesser_of l.net.network l.net.terms (slice_index l.times) k
