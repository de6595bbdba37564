-- Amounts of accounts as they are summed.
use Rattle.std.proofs.Common.{◌≡◌, ℕ, ◌+◌, ◌<◌, ◌≤◌, List, length, replicate, slice_index, sym, ◌∙◌, subst, arith}
use Rattle.std.specs.Prelude.{ℤ, pos}
use Rattle.std.proofs.lemmas.List.{get_or-replicate, length-replicate}
use Rattle.pc_wbs.specs.declared.tree.ItemRow.{ItemRow}
use Rattle.pc_wbs.specs.Climb.{AreInRange, IsBelow, IsDepth, IsTop, IsTree}
use Rattle.pc_wbs.specs.Preorder.{IsPreorder}
use Rattle.pc_wbs.proofs.OrderLaws.{IsBelow-top}
use Rattle.pc_accounts.specs.declared.book.AcctRow.{AcctRow}
use Rattle.pc_accounts.specs.Amounts.{item_of}
use Rattle.pc_rollup.specs.declared.levels.LevelLine.{LevelLine}
use Rattle.pc_rollup.specs.Lines.{AreLevelLines, sum_of}
use Rattle.pc_rollup.specs.Totals.{amount_at}
use Rattle.pc_rollup.specs.inside.Amounts.{AreRolled}
use Rattle.pc_rollup.proofs.SumLaws.{IsSumOver-amounts, IsSumOver-only, IsSumOver-same}
use Rattle.pc_rollup.proofs.ColumnLaws.{AreSummedTo, below_sum}
use Rattle.pc_rollup.proofs.WholeLaws.{first_is_top, lines_of_level, lines_sum, some_item}
use Rattle.pc_rollup.specs.figures.Columns.{AreOnTree, AreItemSums, AreLevelSums, IsColumn, IsLevelSum}
use Rattle.pc_rollup.specs.inside.figures.Columns.{AreSumsByItem, IsAccountTotal}

-- what is summed on the items of accounts is their sums by item
pub sums_are : {A : Type 0} (columns : A → List ℤ) (tree : List ItemRow) (accounts : List AcctRow) (has : ℕ → A) (n : ℕ)
    (sums totals : List A) → AreOnTree tree accounts → n ≡ length accounts →
    AreSummedTo columns (item_of accounts) has (length accounts) (length tree) n sums → AreRolled columns tree sums totals →
    AreSumsByItem columns tree accounts has totals
sums_are columns tree accounts has n sums totals on_tree all so_far rolled c = record {
  one_each = (rolled c).one_each;
  each = below_sum columns (item_of accounts) has (length accounts) tree on_tree.known on_tree.leaves n sums totals all so_far rolled c;
}

-- the sums stay the same where the amounts are others of the same value
pub item_sums_alike : (tree : List ItemRow) (accounts : List AcctRow) (f g : ℕ → ℤ) (totals : List ℤ) →
    ((a : ℕ) → a < length accounts → f a ≡ g a) → AreItemSums tree accounts f totals → AreItemSums tree accounts g totals
item_sums_alike tree accounts f g totals same sums = record {
  one_each = sums.one_each;
  each = λ y lt. IsSumOver-amounts (λ a. IsBelow tree (item_of accounts a) y) (length accounts) f g (amount_at totals y) same (sums.each y lt);
}

-- the lines of a level have what all accounts have, each account once
pub lines_are_whole : (tree : List ItemRow) (accounts : List AcctRow) (amount : ℕ → ℤ) (totals : List ℤ) (level : ℕ)
    (lines : List LevelLine) → AreInRange tree → IsTree tree → AreOnTree tree accounts → AreItemSums tree accounts amount totals →
    1 ≤ level → AreLevelLines tree level totals lines → IsAccountTotal accounts amount (sum_of lines)
lines_are_whole tree accounts amount totals level lines ranged sound on_tree sums some (order, (preorder, are)) =
    lines_sum tree order level (λ a. a < length accounts) (item_of accounts) (length accounts) amount totals lines (record {
      ranged = ranged;
      tree = sound;
      preorder = preorder;
      some = some;
      known = λ a h lt. on_tree.known a h;
      leaves = λ a h lt. on_tree.leaves a h;
      summed = λ y lt. IsSumOver-same (λ a. IsBelow tree (item_of accounts a) y)
          (λ a. (a < length accounts) × IsBelow tree (item_of accounts a) y) (length accounts) amount (amount_at totals y)
          (λ a h below. (h, below)) (λ a h (known, below). below) (sums.each y lt);
      lines = are;
    })

-- so has each level
pub levels_are_whole : (tree : List ItemRow) (accounts : List AcctRow) (amount : ℕ → ℤ) (totals levels : List ℤ) → AreInRange tree →
    IsTree tree → AreOnTree tree accounts → AreItemSums tree accounts amount totals → AreLevelSums tree totals levels → (k : ℕ) →
    k < length levels → IsAccountTotal accounts amount (amount_at levels k)
levels_are_whole tree accounts amount totals levels ranged sound on_tree sums are k lt =
    let (lines, (its, e)) = are.each k lt in
    subst (λ (z : ℤ). IsAccountTotal accounts amount z) (sym e) (lines_are_whole tree accounts amount totals (k + 1) lines ranged sound on_tree sums (omega arith) its)

-- the top has what all accounts have
top_is_whole : (tree : List ItemRow) (accounts : List AcctRow) (amount : ℕ → ℤ) (totals : List ℤ) (top : ℕ) → AreInRange tree → IsTree tree →
    AreOnTree tree accounts → AreItemSums tree accounts amount totals → IsTop tree top → IsAccountTotal accounts amount (amount_at totals top)
top_is_whole tree accounts amount totals top ranged sound on_tree sums is_top =
    let (first, only) = sound.top in
    let same : top ≡ first = only.only top is_top.0 is_top.1 in
    IsSumOver-same (λ a. IsBelow tree (item_of accounts a) top) (λ a. a < length accounts) (length accounts) amount (amount_at totals top)
    (λ a h below. h)
    (λ a h lt. rw same (IsBelow-top tree first (item_of accounts a) ranged sound only (on_tree.known a h)))
    (sums.each top is_top.0)

-- each level has what the top has
level_is_whole : (tree : List ItemRow) (order : List ℕ) (accounts : List AcctRow) (amount : ℕ → ℤ) (k : ℕ) (totals : List ℤ) → AreInRange tree →
    IsTree tree → IsPreorder tree order → AreOnTree tree accounts → AreItemSums tree accounts amount totals →
    IsLevelSum tree totals (k + 1) (amount_at totals (slice_index order 0))
level_is_whole tree order accounts amount k totals ranged sound preorder on_tree sums =
    let (lines, are) = lines_of_level tree order (k + 1) totals sound preorder in
    let top = first_is_top tree order preorder (some_item tree order sound preorder) in (
      lines,
      (
        (order, (preorder, are)),
        IsSumOver-only (λ a. a < length accounts) (length accounts) amount (amount_at totals (slice_index order 0)) (sum_of lines)
            (top_is_whole tree accounts amount totals (slice_index order 0) ranged sound on_tree sums top)
            (lines_are_whole tree accounts amount totals (k + 1) lines ranged sound on_tree sums (omega arith) (order, (preorder, are))),
      ),
    )

-- so a column has at each level what the top has
pub column_is : (tree : List ItemRow) (order : List ℕ) (accounts : List AcctRow) (amount : ℕ → ℤ) (totals : List ℤ) (depth : ℕ) (sum : ℤ) →
    AreInRange tree → IsTree tree → IsPreorder tree order → IsDepth tree depth → AreOnTree tree accounts → AreItemSums tree accounts amount totals →
    amount_at totals (slice_index order 0) ≡ sum → IsColumn tree accounts amount (record { items = totals; levels = replicate depth sum })
column_is tree order accounts amount totals depth sum ranged sound preorder deep on_tree sums is = record {
  items = sums;
  levels = record {
    depth = subst (IsDepth tree) (sym (length-replicate depth sum)) deep;
    each = λ k lt. subst (IsLevelSum tree totals (k + 1)) (is ∙ sym (get_or-replicate depth k sum (pos 0) (omega (arith, length-replicate depth sum))))
        (level_is_whole tree order accounts amount k totals ranged sound preorder on_tree sums);
  };
}
