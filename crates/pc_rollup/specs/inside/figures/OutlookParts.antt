-- What an outlook is made from.
use Rattle.std.specs.Prelude.{◌≡◌, ℕ, ◌<◌, Bool, false, IsTrue, if◌then◌else◌, ◌↔◌, ℤ, pos, ◌-ℤ◌, List, [], ◌∷◌, length, slice_index, slice_index_or}
use Rattle.pc_wbs.specs.declared.tree.ItemRow.{ItemRow}
use Rattle.pc_accounts.specs.declared.book.Entry.{Entry}
use Rattle.pc_accounts.specs.declared.book.AcctRow.{AcctRow}
use Rattle.pc_rollup.specs.declared.figures.outlook.OutlookAmounts.{OutlookAmounts}
use Rattle.pc_rollup.specs.figures.Outlook.{AreAmountsOf, amounts_at}

-- one of the first n activities is on item x
abbrev pub HasActivityTo : List ℕ → ℕ → ℕ → Type 0
HasActivityTo places n x = (a : ℕ) × ((a < n) × (slice_index places a ≡ x))

-- an element of a list; false past its end
abbrev pub mark_at : List Bool → ℕ → Bool
mark_at marks x = slice_index_or marks x false

-- of `items` items those are marked that one of the first n activities is on
pub record AreMarked (items : ℕ) (places : List ℕ) (n : ℕ) (marks : List Bool) : Type 0 where
  pub one_each : length marks ≡ items
  pub each : (x : ℕ) → x < items → IsTrue (mark_at marks x) ↔ HasActivityTo places n x

-- the columns of an outlook
abbrev pub outlook_columns : OutlookAmounts → List ℤ
outlook_columns amounts =
    amounts.budget ∷ amounts.outlook ∷ amounts.change ∷ []

-- the part of an account's budget that counts for the outlook, if its package has activities or if it has none
abbrev pub rest_of : Bool → Entry → ℤ
rest_of has_activity entry = if has_activity then pos 0 else pos entry.budget

-- what an account adds
abbrev pub account_outlook : Bool → Entry → OutlookAmounts
account_outlook has_activity entry = record {
  budget = pos entry.budget;
  outlook = rest_of has_activity entry;
  change = rest_of has_activity entry -ℤ pos entry.budget;
}

-- what an activity adds
abbrev pub activity_outlook : ℕ → OutlookAmounts
activity_outlook cost = record { budget = pos 0; outlook = pos cost; change = pos cost }

-- for each item the amounts of an outlook
pub record AreOutlooks (tree : List ItemRow) (places : List ℕ) (cost : ℕ → ℕ) (accounts : List AcctRow) (entries : List Entry) (amounts : List OutlookAmounts) : Type 0 where
  pub one_each : length amounts ≡ length tree
  pub each : (y : ℕ) → y < length tree → AreAmountsOf tree places cost accounts entries y (amounts_at amounts y)
