use Rattle.std.proofs.Common.{◌≡◌, ℕ, ◌<◌, ◌≤◌}
use Rattle.pc_model.specs.inside.Pieces.{knee_at}
use Rattle.pc_crash.specs.inside.Moved.{moved_knee}
use Rattle.pc_crash.proofs.crash_net.move_knees.Given as goal

abbrev pub invariant-loop-k : goal.invariant-loop-k
invariant-loop-k l =
    ((j : ℕ) → j < l.k → knee_at l.knees j ≡ moved_knee l.old l.new j (knee_at l.fn.knees j))
    × ((j : ℕ) → l.k ≤ j → knee_at l.knees j ≡ knee_at l.fn.knees j)
