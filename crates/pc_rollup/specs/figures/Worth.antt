-- What the work of each item is worth.
use Rattle.std.specs.Prelude.{ℕ, ℤ, List}
use Rattle.pc_wbs.specs.declared.tree.ItemRow.{ItemRow}
use Rattle.pc_accounts.specs.declared.book.AcctRow.{AcctRow}
use Rattle.pc_accounts.specs.declared.book.Entry.{Entry}
use Rattle.pc_times.specs.declared.forecasts.ActState.{ActState}
use Rattle.pc_rollup.specs.Totals.{amount_at}
use Rattle.pc_rollup.specs.declared.figures.worth.WorthAmounts.{WorthAmounts}
use Rattle.pc_rollup.specs.figures.Columns.{AreItemSums}
use Rattle.pc_rollup.specs.figures.Figures.{actual_at, budget_at}
use Rattle.pc_rollup.specs.figures.Packages.{AreValues, overrun_at}

-- for each item what may be spent, what was spent, what the work is worth, and by how much more was spent than that
pub record Worth : Type 0 where
  pub budget : List ℤ
  pub actual : List ℤ
  pub value : List ℤ
  pub overrun : List ℤ

-- these are the sums over the accounts on the item or below it
pub record IsWorthOf (tree : List ItemRow) (places : List ℕ) (states : List ActState) (accounts : List AcctRow) (entries : List Entry) (worth : Worth) : Type 0 where
  pub values : List ℤ
  pub are_values : AreValues places states accounts entries values
  pub budget : AreItemSums tree accounts (budget_at entries) worth.budget
  pub actual : AreItemSums tree accounts (actual_at entries) worth.actual
  pub value : AreItemSums tree accounts (amount_at values) worth.value
  pub overrun : AreItemSums tree accounts (overrun_at entries values) worth.overrun

-- the amounts of item x
abbrev pub worth_amounts : Worth → ℕ → WorthAmounts
worth_amounts worth x = record {
  budget = amount_at worth.budget x;
  actual = amount_at worth.actual x;
  value = amount_at worth.value x;
  overrun = amount_at worth.overrun x;
}
