-- Which packages are finished, and what the work of each account is worth.
-- Here is what no clause of a top call and no law reaches.
use Rattle.std.specs.Prelude.{◌≡◌, ℕ, ◌<◌, Bool, true, false, pos, ◌-ℤ◌, List, length, slice_index, slice_index_or, Option, Some, None, unwrap_or}
use Rattle.pc_accounts.specs.declared.book.AcctRow.{AcctRow}
use Rattle.pc_accounts.specs.declared.book.Entry.{Entry}
use Rattle.pc_accounts.specs.Amounts.{item_of}
use Rattle.pc_accounts.specs.Entries.{entry_at, value_of}
use Rattle.pc_times.specs.declared.forecasts.ActState.{ActState}
use Rattle.pc_times.specs.Forecast.{state_at}
use Rattle.pc_rollup.specs.declared.figures.worth.WorthAmounts.{WorthAmounts}
use Rattle.pc_rollup.specs.figures.Packages.{IsFinished}

-- whether all of the first n activities on item x are finished, or none if there are none
abbrev pub IsProgress : List ℕ → List ActState → ℕ → ℕ → Option Bool → Type 0
IsProgress places states n x None = (a : ℕ) → a < n → slice_index places a ≡ x → ⊥
IsProgress places states n x (Some true) =
    ((a : ℕ) × ((a < n) × (slice_index places a ≡ x))) × ((a : ℕ) → a < n → slice_index places a ≡ x → IsFinished (state_at states a))
IsProgress places states n x (Some false) =
    (a : ℕ) × ((a < n) × (slice_index places a ≡ x) × (IsFinished (state_at states a) → ⊥))

-- an element of a list; none past its end
abbrev pub progress_at : List (Option Bool) → ℕ → Option Bool
progress_at progress x = slice_index_or progress x None

-- one for each of `items` items
pub record AreProgress (items : ℕ) (places : List ℕ) (states : List ActState) (n : ℕ) (progress : List (Option Bool)) : Type 0 where
  pub one_each : length progress ≡ items
  pub each : (x : ℕ) → x < items → IsProgress places states n x (progress_at progress x)

-- the amounts of an account, whose package is finished or not
abbrev pub worth_of : Bool → Entry → WorthAmounts
worth_of finished entry = record {
  budget = pos entry.budget;
  actual = pos entry.actual;
  value = pos (value_of finished entry);
  overrun = pos entry.actual -ℤ pos (value_of finished entry);
}

-- the same of the a-th account, from the progress of all items
abbrev pub worth_at : List (Option Bool) → List AcctRow → List Entry → ℕ → WorthAmounts
worth_at progress accounts entries a =
    worth_of (unwrap_or (progress_at progress (item_of accounts a)) false) (entry_at entries a)
