use Rattle.std.proofs.Common.{◌≡◌, ℕ, ◌<◌, slice_index}
use Rattle.pc_laws.specs.Segment.{times_for}
use Rattle.pc_flow.specs.inside.Courses.{present}
use Rattle.pc_curve.proofs.points.read_times.Given as goal

abbrev pub invariant-loop-e : goal.invariant-loop-e
invariant-loop-e l = (k : ℕ) → k < l.e → slice_index l.times k ≡ times_for (present l.solver) l.limit k
