-- What the passes over charges, amounts to go, budgets and costs have found in the rows so far.
use Rattle.std.specs.Prelude.{◌≡◌, ◌≢◌, ℕ, ◌*◌, ◌-◌, ◌<◌, ◌≤◌, ℤ, ◌≤ℤ◌, int_lt, if◌then◌else◌, List, length, take, slice_index, slice_index_or, sum, sum_by, Option, Some, None}
use Rattle.pc_model.specs.declared.limits.TheConstants.{MAX_COST}
use Rattle.pc_accounts.specs.declared.book.AcctRow.{AcctRow}
use Rattle.pc_accounts.specs.declared.book.MoneyRow.{MoneyRow}
use Rattle.pc_accounts.specs.declared.packages.WorkRow.{WorkRow}
use Rattle.pc_accounts.specs.declared.book.Entry.{Entry}
use Rattle.pc_accounts.specs.Entries.{entry_at}
use Rattle.pc_accounts.specs.Amounts.{money_at, budget_of, actual_of, IsDue}
use Rattle.pc_accounts.specs.Packages.{work_at, budgets_of, costs_of}

-- for each account the sum of its own charges among the first n that are dated up to as-of
pub record AreActuals (accounts : ℕ) (charges : List MoneyRow) (as_of : ℤ) (n : ℕ) (actuals : List ℕ) : Type 0 where
  pub one_each : length actuals ≡ accounts
  pub each : (a : ℕ) → a < accounts → slice_index actuals a ≡ actual_of (take n charges) as_of a
  pub together : sum actuals ≤ n * MAX_COST

-- of the first n amounts to go, the one of account a with the latest date up to as-of, if there is one
abbrev pub LatestBelow : List MoneyRow → ℤ → ℕ → ℕ → Option ℕ → Type 0
LatestBelow togos as_of a n None = (k : ℕ) → k < n → IsDue togos as_of a k → ⊥
LatestBelow togos as_of a n (Some best) =
    (best < n) × IsDue togos as_of a best × ((k : ℕ) → k < n → IsDue togos as_of a k → (money_at togos k).day ≤ℤ (money_at togos best).day)

-- the one of two rows with the later day
abbrev pub later_row : List MoneyRow → Option ℕ → ℕ → ℕ
later_row togos None row = row
later_row togos (Some best) row = if int_lt (money_at togos row).day (money_at togos best).day then best else row

-- an element of a list; none past its end
abbrev pub option_at : List (Option ℕ) → ℕ → Option ℕ
option_at xs k = slice_index_or xs k None

-- one for each account
pub record AreLatest (accounts : ℕ) (togos : List MoneyRow) (as_of : ℤ) (n : ℕ) (latest : List (Option ℕ)) : Type 0 where
  pub one_each : length latest ≡ accounts
  pub each : (a : ℕ) → a < accounts → LatestBelow togos as_of a n (option_at latest a)

-- each is one of the amounts to go
abbrev pub AreKnownAmounts : List MoneyRow → List (Option ℕ) → Type 0
AreKnownAmounts togos latest = (a k : ℕ) → a < length latest → option_at latest a ≡ Some k → k < length togos

-- the amount to go that counts, or what is left of the budget if there is none
abbrev pub to_go_from : List MoneyRow → ℕ → Option ℕ → ℕ
to_go_from togos left None = left
to_go_from togos left (Some k) = (money_at togos k).amount

-- the entry of an account with this budget and this actual, if that amount to go counts
abbrev pub entry_from : List MoneyRow → ℕ → ℕ → Option ℕ → Entry
entry_from togos budget actual latest =
    record { budget = budget; actual = actual; to_go = to_go_from togos (budget - actual) latest }

-- the entries of the first n accounts, made of their budgets, actuals and latest amounts to go
pub record AreMade (accounts : List AcctRow) (togos : List MoneyRow) (actuals : List ℕ) (latest : List (Option ℕ)) (n : ℕ) (entries : List Entry) : Type 0 where
  pub one_each : length entries ≡ n
  pub each : (a : ℕ) → a < n → entry_at entries a ≡ entry_from togos (budget_of accounts a) (slice_index actuals a) (option_at latest a)
  pub together : sum_by (λ entry. entry.actual) entries ≡ sum (take n actuals)

-- the budgets of the first n accounts, by item
pub record AreBudgetSums (items : ℕ) (accounts : List AcctRow) (n : ℕ) (sums : List ℕ) : Type 0 where
  pub one_each : length sums ≡ items
  pub each : (item : ℕ) → item < items → slice_index sums item ≡ budgets_of (take n accounts) item

-- the costs of the first n activities that belong to an item, if there are any
abbrev pub CostBelow : List WorkRow → ℕ → ℕ → Option ℕ → Type 0
CostBelow work item n None =
    ((k : ℕ) → k < n → (work_at work k).item ≢ item) × (costs_of (take n work) item ≡ 0)
CostBelow work item n (Some cost) =
    ((k : ℕ) × ((k < n) × ((work_at work k).item ≡ item))) × (cost ≡ costs_of (take n work) item)

-- the same by item
pub record AreCostSums (items : ℕ) (work : List WorkRow) (n : ℕ) (sums : List (Option ℕ)) : Type 0 where
  pub one_each : length sums ≡ items
  pub each : (item : ℕ) → item < items → CostBelow work item n (option_at sums item)
