use Rattle.std.proofs.Common.{◌*◌, ◌≤◌, sum_by}
use Rattle.std.specs.Prelude.{unsigned_abs}
use Rattle.pc_rollup.specs.declared.totals.Placed.{Placed}
use Rattle.pc_rollup.specs.inside.Totals.{AreOnLeaves}
use Rattle.pc_low_tests.proofs.rollup.on_leaves.Given as goal

abbrev pub invariant-loop-item : goal.invariant-loop-item
invariant-loop-item l =
    record { leaves : AreOnLeaves l.tree l.placed.items; small : sum_by (λ (p : Placed). unsigned_abs p.amount) l.placed.items ≤ 65535 * l.item-index }
