use Rattle.std.proofs.Common.{◌≡◌, ◌+◌, ◌*◌, ◌^◌, ◌≤◌}
use Rattle.std.specs.Prelude.{nat_lt, if◌then◌else◌}
use Rattle.pc_model.specs.Sums.{sum_to}
use Rattle.pc_model.specs.inside.Pieces.{knee_at}
use Rattle.pc_check.proofs.acts.rises_over.Given as goal

abbrev pub invariant-loop-knee : goal.invariant-loop-knee
invariant-loop-knee l =
    (l.sum ≡ sum_to l.knee-index (λ k. if nat_lt l.gap.head (l.gap.tail + (knee_at l.knees k).at) then (knee_at l.knees k).rise else 0))
    × (l.sum ≤ l.knee-index * 2 ^ 64)
