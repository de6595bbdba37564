-- What the management summary reports.
use Rattle.std.specs.Prelude.{ℕ, ℤ, List, length}
use Rattle.pc_wbs.specs.declared.tree.ItemRow.{ItemRow}
use Rattle.pc_wbs.specs.Climb.{AreInRange, IsTree}
use Rattle.pc_accounts.specs.declared.book.AcctRow.{AcctRow}
use Rattle.pc_accounts.specs.declared.book.MoneyRow.{MoneyRow}
use Rattle.pc_accounts.specs.declared.book.Entry.{Entry}
use Rattle.pc_accounts.specs.Amounts.{AreMoney, AreEntriesOf}
use Rattle.pc_rollup.specs.declared.figures.outline.OutlineRow.{OutlineRow}
use Rattle.pc_rollup.specs.Totals.{amount_at}
use Rattle.pc_rollup.specs.declared.figures.summary.SummaryAmounts.{SummaryAmounts}
use Rattle.pc_rollup.specs.figures.Columns.{AmountColumn, AreOnTree, IsColumn, AddUpTo, HaveOneLine}
use Rattle.pc_rollup.specs.figures.Figures.{account_summary_at, amounts_of}
use Rattle.pc_rollup.specs.figures.Outline.{IsOutline}

-- the items in preorder, and each amount by item and by level
pub record Summary : Type 0 where
  pub outline : List OutlineRow
  pub budget : AmountColumn
  pub actual : AmountColumn
  pub to_go : AmountColumn
  pub latest : AmountColumn
  pub overrun : AmountColumn

-- the summary is that of these accounts, which are on the items of this tree
pub record IsSummaryOf (tree : List ItemRow) (accounts : List AcctRow) (entries : List Entry) (summary : Summary) : Type 0 where
  pub outline : IsOutline tree summary.outline
  pub budget : IsColumn tree accounts (λ a. (account_summary_at entries a).budget) summary.budget
  pub actual : IsColumn tree accounts (λ a. (account_summary_at entries a).actual) summary.actual
  pub to_go : IsColumn tree accounts (λ a. (account_summary_at entries a).to_go) summary.to_go
  pub latest : IsColumn tree accounts (λ a. (account_summary_at entries a).latest) summary.latest
  pub overrun : IsColumn tree accounts (λ a. (account_summary_at entries a).overrun) summary.overrun

-- at each level each account is below exactly one line, and the lines add up to the amounts of the project
pub record CountsOnce (tree : List ItemRow) (accounts : List AcctRow) (whole : Entry) (summary : Summary) : Type 0 where
  pub one_line : HaveOneLine tree accounts
  pub budget : AddUpTo tree (amounts_of whole).budget summary.budget
  pub actual : AddUpTo tree (amounts_of whole).actual summary.actual
  pub to_go : AddUpTo tree (amounts_of whole).to_go summary.to_go
  pub latest : AddUpTo tree (amounts_of whole).latest summary.latest
  pub overrun : AddUpTo tree (amounts_of whole).overrun summary.overrun

-- the accounts are on the leaves of a tree, and the entries are those that follow from charges and amounts to go at
-- as-of
pub record AreBooked (tree : List ItemRow) (accounts : List AcctRow) (charges togos : List MoneyRow) (as_of : ℤ) (entries : List Entry) : Type 0 where
  pub ranged : AreInRange tree
  pub sound : IsTree tree
  pub on_tree : AreOnTree tree accounts
  pub known : AreMoney (length accounts) charges
  pub are : AreEntriesOf accounts charges togos as_of entries

-- the amounts of item x
abbrev pub item_amounts : Summary → ℕ → SummaryAmounts
item_amounts summary x = record {
  budget = amount_at summary.budget.items x;
  actual = amount_at summary.actual.items x;
  to_go = amount_at summary.to_go.items x;
  latest = amount_at summary.latest.items x;
  overrun = amount_at summary.overrun.items x;
}

-- the amounts of level k + 1
abbrev pub level_amounts : Summary → ℕ → SummaryAmounts
level_amounts summary k = record {
  budget = amount_at summary.budget.levels k;
  actual = amount_at summary.actual.levels k;
  to_go = amount_at summary.to_go.levels k;
  latest = amount_at summary.latest.levels k;
  overrun = amount_at summary.overrun.levels k;
}
