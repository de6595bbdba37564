-- Tables of items that are made period by period.
use Rattle.std.proofs.Common.{◌≡◌, ℕ, ◌+◌, ◌*◌, ◌<◌, ⊎_elim, List, ◌++◌, length, take, drop, ap, sym, refl, ◌∙◌, subst, length-append, length-drop, suc, arith}
use Rattle.std.specs.Prelude.{ℤ}
use Rattle.std.proofs.lemmas.Bool.{cases_eq}
use Rattle.std.proofs.lemmas.List.{take-append-le, drop-append-le}
use Rattle.std.proofs.Math.Seq.{drop_at, take_all}
use Rattle.std.proofs.Math.Nat.{suc-mul}
use Rattle.pc_wbs.specs.declared.tree.ItemRow.{ItemRow}
use Rattle.pc_wbs.specs.Climb.{AreInRange, IsBelow, IsLeaf, IsTree}
use Rattle.pc_rollup.specs.Totals.{amount_at}
use Rattle.pc_rollup.specs.inside.Totals.{AreRolledUp}
use Rattle.pc_rollup.proofs.SumLaws.{IsSumOver-natural}
use Rattle.pc_rollup.proofs.WholeLaws.{lines_have_all}
use Rattle.pc_load.specs.Items.{LevelsAddUp}
use Rattle.pc_load.specs.inside.Items.{IsItemTable}
use Rattle.pc_load.specs.Table.{Table, column, cells_of_period}
use Rattle.pc_load.specs.inside.Table.{IsTable}
use Rattle.pc_load.proofs.ColumnLaws.{before_next}

-- the first n periods are rolled up
pub record AreRolledTo (tree : List ItemRow) (leaves : Table) (n : ℕ) (cells : List ℤ) : Type 0 where
  pub whole : length cells ≡ n * length tree
  pub each : (k : ℕ) → k < n → AreRolledUp tree (column leaves k) (cells_of_period (length tree) cells k)

-- one period more
pub rolled_more : (tree : List ItemRow) (leaves : Table) (n : ℕ) (cells totals : List ℤ) → AreRolledTo tree leaves n cells →
    AreRolledUp tree (column leaves n) totals → AreRolledTo tree leaves (n + 1) (cells ++ totals)
rolled_more tree leaves n cells totals so_far rolled = record {
  whole = let next = suc-mul n (length tree) in let more = length-append cells totals in
      let one : (n + 1) * length tree ≡ suc n * length tree = ap (λ (m : ℕ). m * length tree) (omega arith) in
      omega (arith, so_far.whole, rolled.one_each);
  each = λ k lt. ⊎_elim (λ e. last k e) (λ ne. earlier k (omega arith)) (cases_eq k n);
}
  where
    last : (k : ℕ) → k ≡ n → AreRolledUp tree (column leaves k) (cells_of_period (length tree) (cells ++ totals) k)
    last k e =
        let here : cells_of_period (length tree) (cells ++ totals) n
        ≡ totals = ap (take (length tree)) (drop_at cells totals (n * length tree) so_far.whole)
        ∙ take_all (length tree) totals (omega (arith, rolled.one_each)) in
        subst (λ (j : ℕ). AreRolledUp tree (column leaves j) (cells_of_period (length tree) (cells ++ totals) j)) (sym e) (subst (AreRolledUp tree (column leaves n)) (sym here) rolled)

    earlier : (k : ℕ) → k < n → AreRolledUp tree (column leaves k) (cells_of_period (length tree) (cells ++ totals) k)
    earlier k lt =
        let up = before_next (length tree) k n lt in
        let rest = length-drop (k * length tree) cells in
        let whole = so_far.whole in
        let same : cells_of_period (length tree) (cells ++ totals) k
        ≡ cells_of_period (length tree) cells k = ap (take (length tree)) (drop-append-le (k * length tree) cells totals (omega arith))
        ∙ take-append-le (length tree) (drop (k * length tree) cells) totals (omega arith) in
        subst (AreRolledUp tree (column leaves k)) (sym same) (so_far.each k lt)

-- all periods
pub items_are : (tree : List ItemRow) (leaves : Table) (n : ℕ) (cells : List ℤ) → n ≡ leaves.periods → AreRolledTo tree leaves n cells →
    IsItemTable tree leaves (record { rows = length tree; periods = leaves.periods; cells = cells })
items_are tree leaves n cells whole so_far = record {
  rows = refl;
  periods = refl;
  each = λ k lt. so_far.each k (omega arith);
}

-- what is rolled up from what is never negative is never negative
pub items_natural : (tree : List ItemRow) (leaves : Table) (n : ℕ) (cells : List ℤ) → IsTable leaves → leaves.rows ≡ length tree →
    n ≡ leaves.periods → AreRolledTo tree leaves n cells → IsTable (record { rows = length tree; periods = leaves.periods; cells = cells })
items_natural tree leaves n cells is one_each whole so_far = record {
  rows = let few = is.rows in omega arith;
  periods = is.periods;
  whole = so_far.whole ∙ ap (λ (m : ℕ). m * length tree) whole;
  natural = λ row k known lt.
      let rolled = so_far.each k (omega arith) in
      IsSumOver-natural (λ x. IsLeaf tree x × IsBelow tree x row) (length tree) (amount_at (column leaves k)) (amount_at (cells_of_period (length tree) cells k) row)
      (λ x h. is.natural x k (omega arith) lt) (rolled.each row known);
}

-- the lines of each level add up
pub levels_add_up : (tree : List ItemRow) (leaves items : Table) → AreInRange tree → IsTree tree → IsItemTable tree leaves items → LevelsAddUp tree items
levels_add_up tree leaves items ranged sound is level k top some lt is_top =
    lines_have_all tree level top (column leaves k) (column items k) ranged sound some (is.each k (omega (arith, is.periods))) is_top
