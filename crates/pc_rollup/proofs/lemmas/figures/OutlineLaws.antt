-- The rows of an outline, made one after the other.
use Rattle.std.proofs.Common.{◌≡◌, ℕ, ◌+◌, ◌<◌, List, [], ◌∷◌, ◌++◌, length, sym, ◌∙◌, subst, arith}
use Rattle.std.proofs.lemmas.List.{length_push}
use Rattle.pc_wbs.specs.declared.tree.ItemRow.{ItemRow}
use Rattle.pc_wbs.specs.Preorder.{IsPreorder}
use Rattle.pc_rollup.specs.declared.figures.outline.OutlineRow.{OutlineRow}
use Rattle.pc_rollup.specs.figures.Outline.{outline_row_at, IsOutlineRow, IsOutline}
use Rattle.pc_rollup.proofs.lemmas.figures.PushLaws.{each_more}

-- the first n rows
pub record AreRowsTo (tree : List ItemRow) (order : List ℕ) (n : ℕ) (outline : List OutlineRow) : Type 0 where
  pub one_each : length outline ≡ n
  pub each : (k : ℕ) → k < n → IsOutlineRow tree order k (outline_row_at outline k)

-- one row more
pub rows_more : (tree : List ItemRow) (order : List ℕ) (n : ℕ) (outline more : List OutlineRow) (line : OutlineRow) →
    AreRowsTo tree order n outline → more ≡ outline ++ line ∷ [] → IsOutlineRow tree order n line → AreRowsTo tree order (n + 1) more
rows_more tree order n outline more line so_far pushed is =
    subst (AreRowsTo tree order (n + 1)) (sym pushed) (record {
      one_each = omega (arith, length_push outline line, so_far.one_each);
      each = each_more (IsOutlineRow tree order) outline line (record { item = 0; level = 0 }) n so_far.one_each so_far.each is;
    })

-- all of them
pub rows_all : (tree : List ItemRow) (order : List ℕ) (n : ℕ) (outline : List OutlineRow) → IsPreorder tree order → n ≡ length order → AreRowsTo tree order n outline → IsOutline tree outline
rows_all tree order n outline preorder all so_far =
    (order, (preorder, record { one_each = so_far.one_each ∙ all; each = λ k lt. so_far.each k (omega arith) }))

-- each row is of an item of the tree
pub row_known : (tree : List ItemRow) (outline : List OutlineRow) (k : ℕ) → IsOutline tree outline → k < length outline → (outline_row_at outline k).item < length tree
row_known tree outline k (order, (preorder, rows)) lt = (rows.each k (omega (arith, rows.one_each))).known
