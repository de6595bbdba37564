-- What the items are going to cost at given durations of the activities.
use Rattle.std.specs.Prelude.{◌≡◌, ℕ, ◌<◌, ℤ, pos, ◌+ℤ◌, ◌-ℤ◌, List, length, slice_index, slice_index_or}
use Rattle.pc_wbs.specs.declared.tree.ItemRow.{ItemRow}
use Rattle.pc_wbs.specs.Climb.{IsBelow}
use Rattle.pc_accounts.specs.declared.book.Entry.{Entry}
use Rattle.pc_accounts.specs.declared.book.AcctRow.{AcctRow}
use Rattle.pc_accounts.specs.Amounts.{item_of}
use Rattle.pc_rollup.specs.Sums.{IsSumOver}
use Rattle.pc_rollup.specs.declared.figures.outline.OutlineRow.{OutlineRow}
use Rattle.pc_rollup.specs.declared.figures.outlook.OutlookAmounts.{OutlookAmounts}
use Rattle.pc_rollup.specs.figures.Columns.{IsItemSum}
use Rattle.pc_rollup.specs.figures.Figures.{budget_at}
use Rattle.pc_rollup.specs.figures.Outline.{IsOutline}

-- the items in preorder, and the amounts of each item
pub record Outlook : Type 0 where
  pub outline : List OutlineRow
  pub amounts : List OutlookAmounts

-- the amounts of item y; past their end none
abbrev pub amounts_at : List OutlookAmounts → ℕ → OutlookAmounts
amounts_at amounts y = slice_index_or amounts y (record { budget = pos 0; outlook = pos 0; change = pos 0 })

-- an activity is on item x
abbrev pub HasActivity : List ℕ → ℕ → Type 0
HasActivity places x = (a : ℕ) × ((a < length places) × (slice_index places a ≡ x))

-- work is the sum of the costs of the activities on item y or below it
abbrev pub IsWork : List ItemRow → List ℕ → (ℕ → ℕ) → ℕ → ℤ → Type 0
IsWork tree places cost y work =
    IsSumOver (λ a. IsBelow tree (slice_index places a) y) (length places) (λ a. pos (cost a)) work

-- rest is the sum of the budgets of those accounts on item y or below it whose package has no activities
abbrev pub IsRest : List ItemRow → List ℕ → List AcctRow → List Entry → ℕ → ℤ → Type 0
IsRest tree places accounts entries y rest =
    IsSumOver (λ b. (HasActivity places (item_of accounts b) → ⊥) × IsBelow tree (item_of accounts b) y) (length accounts) (budget_at entries) rest

-- the amounts of item y: its budget, what it is going to cost, and by how much that is more
pub record AreAmountsOf (tree : List ItemRow) (places : List ℕ) (cost : ℕ → ℕ) (accounts : List AcctRow) (entries : List Entry) (y : ℕ) (amounts : OutlookAmounts) : Type 0 where
  pub budget : IsItemSum tree accounts (budget_at entries) y amounts.budget
  pub work : ℤ
  pub work_is : IsWork tree places cost y work
  pub rest : ℤ
  pub rest_is : IsRest tree places accounts entries y rest
  pub outlook : amounts.outlook ≡ work +ℤ rest
  pub change : amounts.change ≡ amounts.outlook -ℤ amounts.budget

-- the items in preorder, and such amounts for each item, given the costs of the activities
pub record IsOutlookOf (tree : List ItemRow) (places : List ℕ) (cost : ℕ → ℕ) (accounts : List AcctRow) (entries : List Entry) (outlook : Outlook) : Type 0 where
  pub outline : IsOutline tree outlook.outline
  pub one_each : length outlook.amounts ≡ length tree
  pub each : (y : ℕ) → y < length tree → AreAmountsOf tree places cost accounts entries y (amounts_at outlook.amounts y)

-- the outlook of the project: the cost of all activities, and the budgets of all accounts whose package has no
-- activities
pub record IsWholeOutlook (places : List ℕ) (accounts : List AcctRow) (entries : List Entry) (cost : ℕ) (whole : ℤ) : Type 0 where
  pub rest : ℤ
  pub rest_is : IsSumOver (λ b. HasActivity places (item_of accounts b) → ⊥) (length accounts) (budget_at entries) rest
  pub sum : whole ≡ pos cost +ℤ rest
