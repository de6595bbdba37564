-- The preorder of a tree: an item, then the items below it, child by child in row order.
use Rattle.std.specs.Prelude.{◌≡◌, ◌≢◌, ℕ, ◌<◌, ◌≤◌, List, length, slice_index, Some}
use Rattle.pc_model.specs.Greatest.{StandsBelow}
use Rattle.pc_wbs.specs.declared.tree.ItemRow.{ItemRow}
use Rattle.pc_wbs.specs.Climb.{parent_of, IsBelow}

-- all rows, each once; each after its parent; those below an item directly after it, with no other row between them;
-- and the children of an item in row order
pub record IsPreorder (rows : List ItemRow) (order : List ℕ) : Type 0 where
  pub whole : length order ≡ length rows
  pub range : (k : ℕ) → k < length order → slice_index order k < length rows
  pub every : (x : ℕ) → x < length rows → StandsBelow order (length order) x
  pub once : (j k : ℕ) → j < k → k < length order → slice_index order j ≢ slice_index order k
  pub before : (k p : ℕ) → k < length order → parent_of rows (slice_index order k) ≡ Some p → StandsBelow order k p
  pub together : (j k m : ℕ) → j ≤ k → k ≤ m → m < length order → IsBelow rows (slice_index order m) (slice_index order j) → IsBelow rows (slice_index order k) (slice_index order j)
  pub in_row_order : (j k p : ℕ) → j < k → k < length order → parent_of rows (slice_index order j) ≡ Some p → parent_of rows (slice_index order k) ≡ Some p → slice_index order j < slice_index order k
