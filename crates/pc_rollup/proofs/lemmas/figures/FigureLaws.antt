-- The sum of a column over all accounts: that column of the sum of all entries.
use Rattle.std.proofs.Common.{◌≡◌, ℕ, zero, suc, ◌+◌, ◌<◌, ◌≤◌, List, length, take, replicate, slice_index, get_or, refl, sym, ap, ◌∙◌, subst, arith}
use Rattle.std.specs.Prelude.{ℤ, pos, ◌+ℤ◌, sum_by}
use Rattle.std.proofs.lemmas.Int.{ints}
use Rattle.std.proofs.lemmas.List.{length-map}
use Rattle.std.proofs.lemmas.List.Sums.{sum_by_more}
use Rattle.std.proofs.Math.Seq.{take-length}
use Rattle.pc_wbs.specs.declared.tree.ItemRow.{ItemRow}
use Rattle.pc_accounts.specs.declared.book.AcctRow.{AcctRow}
use Rattle.pc_accounts.specs.declared.book.MoneyRow.{MoneyRow}
use Rattle.pc_accounts.specs.declared.book.Entry.{Entry}
use Rattle.pc_accounts.specs.Amounts.{all_charged}
use Rattle.pc_accounts.specs.Entries.{entry_at}
use Rattle.pc_accounts.specs.inside.Entries.{entry_of_all}
use Rattle.pc_accounts.proofs.WholeLaws.{all_spent}
use Rattle.pc_rollup.specs.declared.levels.LevelLine.{LevelLine}
use Rattle.pc_rollup.specs.Lines.{AreLevelLines, sum_of}
use Rattle.pc_rollup.proofs.SumLaws.{IsSumOver-all}
use Rattle.pc_rollup.specs.Totals.{amount_at}
use Rattle.pc_wbs.specs.Climb.{AreInRange, IsDepth, IsTree}
use Rattle.pc_wbs.specs.Preorder.{IsPreorder}
use Rattle.pc_rollup.specs.figures.Columns.{AddUpTo, AmountColumn, AreItemSums, AreOnTree, HaveOneLine, IsColumn, IsLevelSum}
use Rattle.pc_rollup.specs.inside.figures.Columns.{AreSumsByItem, IsAccountTotal, summary_column, summary_columns}
use Rattle.pc_rollup.specs.figures.Figures.{account_summary_at, actual_at, amounts_of}
use Rattle.pc_rollup.specs.figures.Summary.{AreBooked, CountsOnce, IsSummaryOf, Summary}
use Rattle.pc_rollup.specs.figures.Outline.{IsOutline}
use Rattle.pc_rollup.specs.declared.figures.outline.OutlineRow.{OutlineRow}
use Rattle.pc_rollup.specs.declared.figures.summary.SummaryAmounts.{SummaryAmounts}
use Rattle.pc_rollup.specs.inside.Amounts.{column_amounts}
use Rattle.pc_rollup.proofs.ColumnLaws.{column_at}
use Rattle.pc_rollup.proofs.WholeLaws.{some_item}
use Rattle.pc_rollup.proofs.lemmas.figures.SumLaws.{column_is, levels_are_whole, lines_are_whole}

-- a column of an entry
abbrev column_of_entry : ℕ → Entry → ℤ
column_of_entry c entry = amount_at (summary_columns (amounts_of entry)) c

-- no entries add up to zero
none_of : (c : ℕ) (entries : List Entry) → column_of_entry c (entry_of_all (take 0 entries)) ≡ pos 0
none_of zero entries = refl
none_of (suc zero) entries = refl
none_of (suc (suc zero)) entries = refl
none_of (suc (suc (suc zero))) entries = refl
none_of (suc (suc (suc (suc zero)))) entries = refl
none_of (suc (suc (suc (suc (suc c))))) entries = refl

-- one entry more
more_of : (c : ℕ) (entries : List Entry) (a : ℕ) → a < length entries →
    column_of_entry c (entry_of_all (take (a + 1) entries)) ≡ column_of_entry c (entry_of_all (take a entries)) +ℤ column_of_entry c (entry_at entries a)
more_of c entries a lt = of_column c
  where
    none : Entry
    none = record { budget = 0; actual = 0; to_go = 0 }

    budget : sum_by (λ (e : Entry). e.budget) (take (a + 1) entries) ≡ sum_by (λ (e : Entry). e.budget) (take a entries) + (entry_at entries a).budget
    budget = sum_by_more (λ (e : Entry). e.budget) entries a none lt

    actual : sum_by (λ (e : Entry). e.actual) (take (a + 1) entries) ≡ sum_by (λ (e : Entry). e.actual) (take a entries) + (entry_at entries a).actual
    actual = sum_by_more (λ (e : Entry). e.actual) entries a none lt

    to_go : sum_by (λ (e : Entry). e.to_go) (take (a + 1) entries) ≡ sum_by (λ (e : Entry). e.to_go) (take a entries) + (entry_at entries a).to_go
    to_go = sum_by_more (λ (e : Entry). e.to_go) entries a none lt

    of_column : (c : ℕ) → column_of_entry c (entry_of_all (take (a + 1) entries)) ≡ column_of_entry c (entry_of_all (take a entries)) +ℤ column_of_entry c (entry_at entries a)
    of_column zero = omega (arith, ints, budget)
    of_column (suc zero) = omega (arith, ints, actual)
    of_column (suc (suc zero)) = omega (arith, ints, to_go)
    of_column (suc (suc (suc zero))) = omega (arith, ints, actual, to_go)
    of_column (suc (suc (suc (suc zero)))) = omega (arith, ints, budget, actual, to_go)
    of_column (suc (suc (suc (suc (suc c))))) = refl

-- all of them
column_total : (c : ℕ) (accounts : List AcctRow) (entries : List Entry) → length entries ≡ length accounts → (t : ℤ) →
    IsAccountTotal accounts (λ a. column_of_entry c (entry_at entries a)) t → t ≡ column_of_entry c (entry_of_all entries)
column_total c accounts entries one_each t is =
    let whole : take (length accounts) entries ≡ entries = ap (λ (k : ℕ). take k entries) (sym one_each) ∙ take-length entries in
    IsSumOver-all (λ a. a < length accounts) (length accounts) (λ a. column_of_entry c (entry_at entries a)) (λ k. column_of_entry c (entry_of_all (take k entries))) t
    (none_of c entries)
    (λ a h. more_of c entries a (omega arith))
    (λ a h. h)
    is
    ∙ ap (λ (es : List Entry). column_of_entry c (entry_of_all es)) whole

-- the lines of each level add up to the amount of all entries
pub adds_up : (c : ℕ) (tree : List ItemRow) (accounts : List AcctRow) (entries : List Entry) (column : AmountColumn) → AreInRange tree → IsTree tree →
    AreOnTree tree accounts → length entries ≡ length accounts → IsColumn tree accounts (λ a. column_of_entry c (entry_at entries a)) column →
    AddUpTo tree (column_of_entry c (entry_of_all entries)) column
adds_up c tree accounts entries column ranged sound on_tree one_each is = λ k lt.
    let e = column_total c accounts entries one_each (amount_at column.levels k)
    (levels_are_whole tree accounts (λ a. column_of_entry c (entry_at entries a)) column.items column.levels ranged sound on_tree is.items is.levels k lt) in
    (subst (λ (z : ℤ). IsLevelSum tree column.items (k + 1) z) e (is.levels.each k lt), e)

-- the lines of a level have all charges up to as-of
pub lines_have_charges : (tree : List ItemRow) (accounts : List AcctRow) (charges togos : List MoneyRow) (as_of : ℤ) (entries : List Entry)
    (level : ℕ) (totals : List ℤ) (lines : List LevelLine) → AreBooked tree accounts charges togos as_of entries →
    AreItemSums tree accounts (actual_at entries) totals → 1 ≤ level → AreLevelLines tree level totals lines →
    sum_of lines ≡ pos (all_charged charges as_of)
lines_have_charges tree accounts charges togos as_of entries level totals lines booked sums some its =
    column_total 1 accounts entries booked.are.one_each (sum_of lines)
    (lines_are_whole tree accounts (actual_at entries) totals level lines booked.ranged booked.sound booked.on_tree sums some its)
    ∙ ap pos (all_spent accounts charges togos as_of entries booked.known booked.are)

-- the top has its sums
pub top_known : (tree : List ItemRow) (order : List ℕ) (accounts : List AcctRow) (entries : List Entry) (amounts : List SummaryAmounts) → IsTree tree →
    IsPreorder tree order → AreSumsByItem summary_columns tree accounts (account_summary_at entries) amounts → slice_index order 0 < length amounts
top_known tree order accounts entries amounts sound preorder sums =
    let long = length-map amounts (λ (a : SummaryAmounts). amount_at (summary_columns a) 0) in
    omega (arith, preorder.range 0 (some_item tree order sound preorder), (sums 0).one_each)

-- sums by item, and the amounts of the top, which each level has
module _ (tree : List ItemRow) (order : List ℕ) (accounts : List AcctRow) (entries : List Entry) (amounts : List SummaryAmounts) (whole : SummaryAmounts) (depth : ℕ)
    (ranged : AreInRange tree) (sound : IsTree tree) (preorder : IsPreorder tree order) (deep : IsDepth tree depth) (on_tree : AreOnTree tree accounts)
    (one_each : length entries ≡ length accounts) (sums : AreSumsByItem summary_columns tree accounts (account_summary_at entries) amounts)
    (top : whole ≡ get_or amounts (slice_index order 0) whole) where
  abbrev columns : ℕ → AmountColumn
  columns c = record { items = column_amounts summary_columns c amounts; levels = replicate depth (amount_at (summary_columns whole) c) }

  known : slice_index order 0 < length amounts
  known = top_known tree order accounts entries amounts sound preorder sums

  is_column : (c : ℕ) → IsColumn tree accounts (λ a. column_of_entry c (entry_at entries a)) (columns c)
  is_column c =
      column_is tree order accounts (λ a. column_of_entry c (entry_at entries a)) (column_amounts summary_columns c amounts) depth (amount_at (summary_columns whole) c)
      ranged sound preorder deep on_tree (sums c) (column_at summary_columns c amounts (slice_index order 0) whole known top)

  adds : (c : ℕ) → AddUpTo tree (column_of_entry c (entry_of_all entries)) (columns c)
  adds c = adds_up c tree accounts entries (columns c) ranged sound on_tree one_each (is_column c)

  module _ (outline : List OutlineRow) where
    abbrev summary : Summary
    summary = record {
      outline = outline;
      budget = summary_column (λ (a : SummaryAmounts). a.budget) amounts whole depth;
      actual = summary_column (λ (a : SummaryAmounts). a.actual) amounts whole depth;
      to_go = summary_column (λ (a : SummaryAmounts). a.to_go) amounts whole depth;
      latest = summary_column (λ (a : SummaryAmounts). a.latest) amounts whole depth;
      overrun = summary_column (λ (a : SummaryAmounts). a.overrun) amounts whole depth;
    }

    pub summary_is : IsOutline tree outline → IsSummaryOf tree accounts entries summary
    summary_is in_order = record {
      outline = in_order;
      budget = is_column 0;
      actual = is_column 1;
      to_go = is_column 2;
      latest = is_column 3;
      overrun = is_column 4;
    }

    pub counts_once : HaveOneLine tree accounts → CountsOnce tree accounts (entry_of_all entries) summary
    counts_once one_line = record {
      one_line = one_line;
      budget = adds 0;
      actual = adds 1;
      to_go = adds 2;
      latest = adds 3;
      overrun = adds 4;
    }
