-- An amount of each account, summed by item and by level.
-- Here is what no clause of a top call and no law reaches.
use Rattle.std.specs.Prelude.{ℕ, ◌<◌, ℤ, List, [], ◌∷◌, length, map, replicate}
use Rattle.pc_wbs.specs.declared.tree.ItemRow.{ItemRow}
use Rattle.pc_accounts.specs.declared.book.AcctRow.{AcctRow}
use Rattle.pc_rollup.specs.Sums.{IsSumOver}
use Rattle.pc_rollup.specs.Totals.{amount_at}
use Rattle.pc_rollup.specs.declared.figures.summary.SummaryAmounts.{SummaryAmounts}
use Rattle.pc_rollup.specs.declared.figures.worth.WorthAmounts.{WorthAmounts}
use Rattle.pc_rollup.specs.figures.Columns.{AmountColumn, AreItemSums}
use Rattle.pc_rollup.specs.inside.Amounts.{column_amounts}

-- total is the sum of an amount over all accounts
abbrev pub IsAccountTotal : List AcctRow → (ℕ → ℤ) → ℤ → Type 0
IsAccountTotal accounts amount total =
    IsSumOver (λ a. a < length accounts) (length accounts) amount total

-- in each column the sums by item of what each account has
abbrev pub AreSumsByItem : {A : Type 0} → (A → List ℤ) → List ItemRow → List AcctRow → (ℕ → A) → List A → Type 0
AreSumsByItem columns tree accounts has sums =
    (c : ℕ) → AreItemSums tree accounts (λ a. amount_at (columns (has a)) c) (column_amounts columns c sums)

-- the columns of a summary
abbrev pub summary_columns : SummaryAmounts → List ℤ
summary_columns amounts =
    amounts.budget ∷ amounts.actual ∷ amounts.to_go ∷ amounts.latest ∷ amounts.overrun ∷ []

-- the columns of a value of work report
abbrev pub worth_columns : WorthAmounts → List ℤ
worth_columns amounts =
    amounts.budget ∷ amounts.actual ∷ amounts.value ∷ amounts.overrun ∷ []

-- a column of a summary, from the amounts of the items and that of the top, which each of `depth` levels has
abbrev pub summary_column : (SummaryAmounts → ℤ) → List SummaryAmounts → SummaryAmounts → ℕ → AmountColumn
summary_column part items whole depth = record { items = map part items; levels = replicate depth (part whole) }
