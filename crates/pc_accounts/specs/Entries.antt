-- What an entry of a book adds up to, and what an account's work is worth.
use Rattle.std.specs.Prelude.{ℕ, ◌+◌, ◌*◌, ◌/◌, ◌<◌, ◌≤◌, ◌==◌, Bool, if◌then◌else◌, List, length, slice_index_or, sum_by}
use Rattle.pc_model.specs.declared.limits.TheConstants.{MAX_ACCOUNTS, MAX_CHARGES, MAX_COST}
use Rattle.pc_accounts.specs.declared.book.Entry.{Entry}

-- the entry of account a; past the end of the list one of zeros
abbrev pub entry_at : List Entry → ℕ → Entry
entry_at entries a = slice_index_or entries a (record { budget = 0; actual = 0; to_go = 0 })

-- what the account will have cost
abbrev pub latest_of : Entry → ℕ
latest_of entry = entry.actual + entry.to_go

-- what its work is worth: the budget if its package is finished, and otherwise the budget in the ratio of actual to
-- latest, rounded down, or nothing where latest is 0
abbrev pub value_of : Bool → Entry → ℕ
value_of finished entry =
    if finished then entry.budget
    else (if latest_of entry == 0 then 0 else (entry.budget * entry.actual / latest_of entry))

-- no amount is greater than cards within the limits make it
pub record IsEntryWithinLimits (entry : Entry) : Type 0 where
  pub budget : entry.budget ≤ MAX_COST
  pub actual : entry.actual ≤ MAX_CHARGES * MAX_COST
  pub to_go : entry.to_go ≤ MAX_COST

-- the same for a complete book, in which the sum of all actual amounts is at most what all charges can be
pub record AreEntriesWithinLimits (entries : List Entry) : Type 0 where
  pub few : length entries ≤ MAX_ACCOUNTS
  pub each : (a : ℕ) → a < length entries → IsEntryWithinLimits (entry_at entries a)
  pub together : sum_by (λ entry. entry.actual) entries ≤ MAX_CHARGES * MAX_COST
