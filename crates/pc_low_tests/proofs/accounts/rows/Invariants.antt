use Rattle.std.proofs.Common.{◌≤◌, length}
use Rattle.pc_accounts.specs.Amounts.{AreMoney}
use Rattle.pc_low_tests.proofs.accounts.rows.Given as goal

abbrev pub invariant-loop-account : goal.invariant-loop-account
invariant-loop-account l =
    record { few : length l.rows.items ≤ l.account-index; money : AreMoney 2 l.rows.items }
