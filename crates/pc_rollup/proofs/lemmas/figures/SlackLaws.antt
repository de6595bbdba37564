-- The least slacks by item, from the slack of each activity.
use Rattle.std.proofs.Common.{◌≡◌, ℕ, ◌<◌, List, length, slice_index, Option, Some, None, sym, ap, ◌∙◌, subst, arith}
use Rattle.std.specs.Prelude.{ℤ}
use Rattle.std.proofs.lemmas.Int.{ints}
use Rattle.pc_wbs.specs.declared.tree.ItemRow.{ItemRow}
use Rattle.pc_wbs.specs.Climb.{IsBelow}
use Rattle.pc_rollup.specs.declared.totals.Placed.{Placed}
use Rattle.pc_rollup.specs.Least.{IsLeastOver, least_at}
use Rattle.pc_rollup.specs.inside.Least.{AreLeastOf}
use Rattle.pc_rollup.specs.inside.Totals.{placed_item, placed_amount}
use Rattle.pc_rollup.specs.figures.Slacks.{AreLeastSlacks}
use Rattle.pc_rollup.specs.inside.figures.Slacks.{ArePlacedSlacks}

-- the least over what is placed is the least over the activities
pub least_slacks_are : (tree : List ItemRow) (places : List ℕ) (slack : ℕ → ℤ) (placed : List Placed) (slacks : List (Option ℤ)) →
    ArePlacedSlacks places slack (length places) placed → AreLeastOf tree placed slacks → AreLeastSlacks tree places slack slacks
least_slacks_are tree places slack placed slacks are least = record {
  one_each = least.one_each;
  each = λ y lt. of_least y (least_at slacks y) (least.each y lt);
}
  where
    place : (a : ℕ) → a < length places → placed_item placed a ≡ slice_index places a
    place a h = ap (λ (p : Placed). p.item) (are.each a h)

    amount : (a : ℕ) → a < length places → placed_amount placed a ≡ slack a
    amount a h = ap (λ (p : Placed). p.amount) (are.each a h)

    of_least : (y : ℕ) (o : Option ℤ) → IsLeastOver (λ k. IsBelow tree (placed_item placed k) y) (length placed) (placed_amount placed) o →
        IsLeastOver (λ a. IsBelow tree (slice_index places a) y) (length places) slack o
    of_least y None none = λ a h below. none a (omega (arith, are.one_each)) (subst (λ (x : ℕ). IsBelow tree x y) (sym (place a h)) below)
    of_least y (Some m) ((x, (lt, below, at)), bound) =
        let h : x < length places = omega (arith, are.one_each) in (
          (x, (h, subst (λ (z : ℕ). IsBelow tree z y) (place x h) below, sym (amount x h) ∙ at)),
          λ a h under. let le = bound a (omega (arith, are.one_each)) (subst (λ (z : ℕ). IsBelow tree z y) (sym (place a h)) under) in let same = amount a h in omega (arith, ints),
        )
