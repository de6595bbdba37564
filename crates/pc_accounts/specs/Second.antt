-- Amounts to go of one account and one day.
use Rattle.std.specs.Prelude.{◌≡◌, ℕ, ◌<◌, List, length}
use Rattle.pc_accounts.specs.declared.book.MoneyRow.{MoneyRow}
use Rattle.pc_accounts.specs.Amounts.{money_at}

-- row k comes after row j and has its account and its day
pub record Repeats (togos : List MoneyRow) (k j : ℕ) : Type 0 where
  pub later : j < k
  pub account : (money_at togos k).account ≡ (money_at togos j).account
  pub day : (money_at togos k).day ≡ (money_at togos j).day

-- row k repeats an earlier row
abbrev pub IsRepeated : List MoneyRow → ℕ → Type 0
IsRepeated togos k = (k < length togos) × ((j : ℕ) × Repeats togos k j)
