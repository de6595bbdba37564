-- Which packages are finished, and what the work of each account is worth.
use Rattle.std.specs.Prelude.{◌≡◌, ◌⊎◌, ℕ, ◌<◌, false, ℤ, pos, ◌-ℤ◌, List, length, slice_index}
use Rattle.pc_accounts.specs.declared.book.AcctRow.{AcctRow}
use Rattle.pc_accounts.specs.declared.book.Entry.{Entry}
use Rattle.pc_accounts.specs.Amounts.{item_of}
use Rattle.pc_accounts.specs.Entries.{entry_at, value_of}
use Rattle.pc_rollup.specs.Totals.{amount_at}
use Rattle.pc_times.specs.declared.forecasts.ActState.{ActState}
use Rattle.pc_times.specs.declared.forecasts.ActState.TheVariants.{Waiting, Started, Finished}
use Rattle.pc_times.specs.Forecast.{state_at}

-- the activity is finished
abbrev pub IsFinished : ActState → Type 0
IsFinished (Finished at) = Unit {0}
IsFinished (Started at) = ⊥
IsFinished Waiting = ⊥

-- the package on item x is finished: it has an activity, and all its activities are finished
pub record IsFinishedPackage (places : List ℕ) (states : List ActState) (x : ℕ) : Type 0 where
  pub some : (a : ℕ) × ((a < length places) × (slice_index places a ≡ x))
  pub all : (a : ℕ) → a < length places → slice_index places a ≡ x → IsFinished (state_at states a)

-- what the work of account a is worth: its budget if its package is finished, and otherwise the budget in the ratio of
-- what was spent to what it will have cost, rounded down, or nothing if it will have cost nothing
abbrev pub IsValueOf : List ℕ → List ActState → List AcctRow → List Entry → ℕ → ℤ → Type 0
IsValueOf places states accounts entries a value =
    (IsFinishedPackage places states (item_of accounts a) × (value ≡ pos (entry_at entries a).budget))
    ⊎ ((IsFinishedPackage places states (item_of accounts a) → ⊥) × (value ≡ pos (value_of false (entry_at entries a))))

-- one value for each account
pub record AreValues (places : List ℕ) (states : List ActState) (accounts : List AcctRow) (entries : List Entry) (values : List ℤ) : Type 0 where
  pub one_each : length values ≡ length accounts
  pub each : (a : ℕ) → a < length accounts → IsValueOf places states accounts entries a (amount_at values a)

-- by how much what was spent on account a is more than its work is worth
abbrev pub overrun_at : List Entry → List ℤ → ℕ → ℤ
overrun_at entries values a = pos (entry_at entries a).actual -ℤ amount_at values a
