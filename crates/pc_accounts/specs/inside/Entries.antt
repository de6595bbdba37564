-- What an entry of a book adds up to, and what an account's work is worth.
-- Here is what no clause of a top call and no law reaches.
use Rattle.std.specs.Prelude.{ℕ, ◌+◌, ◌*◌, ◌<◌, ◌≤◌, List, sum_by}
use Rattle.pc_accounts.specs.declared.book.Entry.{Entry}
use Rattle.pc_accounts.specs.Entries.{latest_of}

-- the sums over all entries: their budgets, what they have spent, and what is to go
abbrev pub entry_of_all : List Entry → Entry
entry_of_all entries = record {
  budget = sum_by (λ entry. entry.budget) entries;
  actual = sum_by (λ entry. entry.actual) entries;
  to_go = sum_by (λ entry. entry.to_go) entries;
}

-- v is the greatest number that is to the budget at most as actual is to latest
pub record IsShare (entry : Entry) (v : ℕ) : Type 0 where
  pub enough : v * latest_of entry ≤ entry.budget * entry.actual
  pub most : entry.budget * entry.actual < (v + 1) * latest_of entry
