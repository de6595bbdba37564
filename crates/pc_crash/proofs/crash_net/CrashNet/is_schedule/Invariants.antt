use Rattle.std.proofs.Common.{ℕ, ◌<◌, slice_index}
use Rattle.pc_crash.specs.inside.Priced.{FitsActivity}
use Rattle.pc_crash.proofs.crash_net.CrashNet.is_schedule.Given as goal

abbrev pub invariant-loop-a : goal.invariant-loop-a
invariant-loop-a l = (a : ℕ) → a < l.a → FitsActivity l.self a (slice_index l.durations a) (slice_index l.times)
