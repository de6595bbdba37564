-- The budgets and the costs of a package, and which packages are uneven.
-- Here is what no clause of a top call and no law reaches.
use Rattle.std.specs.Prelude.{◌≡◌, ℕ, ◌<◌, ◌≤◌, List, length}
use Rattle.pc_model.specs.Greatest.{IsFirst}
use Rattle.pc_model.specs.declared.limits.TheConstants.{MAX_COST}
use Rattle.pc_accounts.specs.declared.book.AcctRow.{AcctRow}
use Rattle.pc_accounts.specs.declared.packages.WorkRow.{WorkRow}
use Rattle.pc_accounts.specs.declared.packages.Uneven.{Uneven}
use Rattle.pc_accounts.specs.declared.packages.Uneven.TheVariants.{Item, OutOfMemory}
use Rattle.pc_accounts.specs.Packages.{budgets_of, costs_of, work_at, IsUneven}

-- the first uneven item, with its two sums; memory may run out at any time
abbrev pub IsFirstUneven : List AcctRow → List WorkRow → Uneven → Type 0
IsFirstUneven accounts work (Item item budgets costs) =
    IsFirst (IsUneven accounts work) item × (budgets ≡ budgets_of accounts item) × (costs ≡ costs_of work item)
IsFirstUneven accounts work OutOfMemory = Unit {0}

-- each activity belongs to one of the items, and its cost is at most the limit
pub record AreWork (items : ℕ) (work : List WorkRow) : Type 0 where
  pub known : (k : ℕ) → k < length work → (work_at work k).item < items
  pub small : (k : ℕ) → k < length work → (work_at work k).cost ≤ MAX_COST
