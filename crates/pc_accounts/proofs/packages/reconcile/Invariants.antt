use Rattle.std.proofs.Common.{ℕ, ◌<◌}
use Rattle.pc_accounts.specs.Packages.{IsUneven}
use Rattle.pc_accounts.proofs.packages.reconcile.Given as goal

abbrev pub invariant-loop-item : goal.invariant-loop-item
invariant-loop-item l = (i : ℕ) → i < l.item → IsUneven l.accounts l.work i → ⊥
