-- The amounts of an account that the summary reports.
use Rattle.std.specs.Prelude.{ℕ, ℤ, pos, ◌-ℤ◌, List}
use Rattle.pc_accounts.specs.declared.book.Entry.{Entry}
use Rattle.pc_accounts.specs.Entries.{entry_at, latest_of}
use Rattle.pc_rollup.specs.declared.figures.summary.SummaryAmounts.{SummaryAmounts}

-- what an account may spend, what it has spent, what is to go, what it will have cost, and by how much that is more than
-- it may spend
abbrev pub amounts_of : Entry → SummaryAmounts
amounts_of entry = record {
  budget = pos entry.budget;
  actual = pos entry.actual;
  to_go = pos entry.to_go;
  latest = pos (latest_of entry);
  overrun = pos (latest_of entry) -ℤ pos entry.budget;
}

-- the same of the a-th account
abbrev pub account_summary_at : List Entry → ℕ → SummaryAmounts
account_summary_at entries a = amounts_of (entry_at entries a)

-- what the a-th account may spend
abbrev pub budget_at : List Entry → ℕ → ℤ
budget_at entries a = pos (entry_at entries a).budget

-- what it has spent
abbrev pub actual_at : List Entry → ℕ → ℤ
actual_at entries a = pos (entry_at entries a).actual
