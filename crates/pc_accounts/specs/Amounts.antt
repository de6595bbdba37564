-- What a book says of each account: sums and choices over all charges and all amounts to go.
use Rattle.std.specs.Prelude.{◌≡◌, ℕ, ◌-◌, ◌<◌, ◌≤◌, ◌==◌, ◌&&◌, ◌⊎◌, ℤ, pos, ◌≤ℤ◌, int_le, List, length, slice_index_or, filter, sum_by}
use Rattle.pc_model.specs.declared.limits.TheConstants.{MAX_COST}
use Rattle.pc_accounts.specs.declared.book.AcctRow.{AcctRow}
use Rattle.pc_accounts.specs.declared.book.MoneyRow.{MoneyRow}
use Rattle.pc_accounts.specs.declared.book.Entry.{Entry}
use Rattle.pc_accounts.specs.Entries.{entry_at}

-- account a; past the end of the list one without a budget on item 0
abbrev pub account_at : List AcctRow → ℕ → AcctRow
account_at accounts a = slice_index_or accounts a (record { item = 0; budget = 0 })

-- the item that account a is on
abbrev pub item_of : List AcctRow → ℕ → ℕ
item_of accounts a = (account_at accounts a).item

-- its budget
abbrev pub budget_of : List AcctRow → ℕ → ℕ
budget_of accounts a = (account_at accounts a).budget

-- row k of charges or of amounts to go; past the end of the list nothing of account 0
abbrev pub money_at : List MoneyRow → ℕ → MoneyRow
money_at rows k = slice_index_or rows k (record { account = 0; day = pos 0; amount = 0 })

-- the sum of the account's charges dated up to as-of
abbrev pub actual_of : List MoneyRow → ℤ → ℕ → ℕ
actual_of charges as_of a = sum_by (λ row. row.amount) (filter (λ row. (row.account == a) && int_le row.day as_of) charges)

-- the sum of all charges dated up to as-of, whichever account they are of
abbrev pub all_charged : List MoneyRow → ℤ → ℕ
all_charged charges as_of = sum_by (λ row. row.amount) (filter (λ row. int_le row.day as_of) charges)

-- row k is of account a, and dated up to as-of
pub record IsDue (rows : List MoneyRow) (as_of : ℤ) (a k : ℕ) : Type 0 where
  pub in_rows : k < length rows
  pub account : (money_at rows k).account ≡ a
  pub due : (money_at rows k).day ≤ℤ as_of

-- what is to go: the amount to go with the latest date up to as-of; if there is none, the budget less actual, or 0 if
-- actual is greater
abbrev pub IsToGo : List MoneyRow → ℤ → ℕ → Entry → Type 0
IsToGo togos as_of a entry =
    ((k : ℕ) × IsDue togos as_of a k × ((j : ℕ) → IsDue togos as_of a j → (money_at togos j).day ≤ℤ (money_at togos k).day)
    × (entry.to_go ≡ (money_at togos k).amount))
    ⊎ (((k : ℕ) → IsDue togos as_of a k → ⊥) × (entry.to_go ≡ entry.budget - entry.actual))

-- the entry has the budget of account a, the sum of its charges up to as-of, and what is to go
pub record IsEntryOf (accounts : List AcctRow) (charges togos : List MoneyRow) (as_of : ℤ) (a : ℕ) (entry : Entry) : Type 0 where
  pub budget : entry.budget ≡ budget_of accounts a
  pub actual : entry.actual ≡ actual_of charges as_of a
  pub to_go : IsToGo togos as_of a entry

-- one entry for each account
pub record AreEntriesOf (accounts : List AcctRow) (charges togos : List MoneyRow) (as_of : ℤ) (entries : List Entry) : Type 0 where
  pub one_each : length entries ≡ length accounts
  pub each : (a : ℕ) → a < length accounts → IsEntryOf accounts charges togos as_of a (entry_at entries a)

-- all accounts as one: their budgets, all charges dated up to as-of, and the sum of what is to go
abbrev pub entry_of_project : List AcctRow → List MoneyRow → ℤ → List Entry → Entry
entry_of_project accounts charges as_of entries = record {
  budget = sum_by (λ account. account.budget) accounts;
  actual = all_charged charges as_of;
  to_go = sum_by (λ entry. entry.to_go) entries;
}

-- no budget is above the limit
abbrev pub AreBudgets : List AcctRow → Type 0
AreBudgets accounts = (a : ℕ) → a < length accounts → budget_of accounts a ≤ MAX_COST

-- each row is of one of the accounts, and no amount is above the limit
pub record AreMoney (accounts : ℕ) (rows : List MoneyRow) : Type 0 where
  pub known : (k : ℕ) → k < length rows → (money_at rows k).account < accounts
  pub small : (k : ℕ) → k < length rows → (money_at rows k).amount ≤ MAX_COST
