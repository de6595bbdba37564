use Rattle.std.proofs.Common.{◌≡◌, ℕ, ◌<◌, length, Some}
use Rattle.pc_wbs.specs.Climb.{parent_of}
use Rattle.pc_low_tests.proofs.wbs.rows_of.Given as goal

abbrev pub invariant-loop-parent : goal.invariant-loop-parent
invariant-loop-parent l =
    (length l.rows.items ≡ l.parent-index) × ((x p : ℕ) → x < l.parent-index → parent_of l.rows.items x ≡ Some p → p < length l.parents)
