-- The budgets and the costs of a package, and which packages are uneven.
use Rattle.std.specs.Prelude.{◌≡◌, ◌≢◌, ℕ, ◌<◌, ◌==◌, List, length, slice_index_or, filter, sum_by}
use Rattle.pc_accounts.specs.declared.book.AcctRow.{AcctRow}
use Rattle.pc_accounts.specs.declared.packages.WorkRow.{WorkRow}

-- the sum of the budgets of the accounts on an item
abbrev pub budgets_of : List AcctRow → ℕ → ℕ
budgets_of accounts item = sum_by (λ row. row.budget) (filter (λ row. row.item == item) accounts)

-- the sum of the costs of the activities at an item
abbrev pub costs_of : List WorkRow → ℕ → ℕ
costs_of work item = sum_by (λ row. row.cost) (filter (λ row. row.item == item) work)

-- activity k's item and cost; past the end of the list item 0 and no cost
abbrev pub work_at : List WorkRow → ℕ → WorkRow
work_at work k = slice_index_or work k (record { item = 0; cost = 0 })

-- the item has an activity, and what its accounts may spend is not what its activities cost
abbrev pub IsUneven : List AcctRow → List WorkRow → ℕ → Type 0
IsUneven accounts work item =
    ((k : ℕ) × (k < length work) × ((work_at work k).item ≡ item)) × (budgets_of accounts item ≢ costs_of work item)
