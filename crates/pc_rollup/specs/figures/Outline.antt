-- The items in the order in which reports list them.
use Rattle.std.specs.Prelude.{◌≡◌, ℕ, ◌<◌, List, length, slice_index, slice_index_or}
use Rattle.pc_wbs.specs.declared.tree.ItemRow.{ItemRow}
use Rattle.pc_wbs.specs.Climb.{HasLevel}
use Rattle.pc_wbs.specs.Preorder.{IsPreorder}
use Rattle.pc_rollup.specs.declared.figures.outline.OutlineRow.{OutlineRow}

-- the k-th row; past the end of the list one of item 0
abbrev pub outline_row_at : List OutlineRow → ℕ → OutlineRow
outline_row_at outline k = slice_index_or outline k (record { item = 0; level = 0 })

-- the k-th row is the k-th item of this order, with its level
pub record IsOutlineRow (tree : List ItemRow) (order : List ℕ) (k : ℕ) (line : OutlineRow) : Type 0 where
  pub item : line.item ≡ slice_index order k
  pub known : line.item < length tree
  pub level : HasLevel tree line.item line.level

-- a row for each item in this order
pub record AreOutlineRows (tree : List ItemRow) (order : List ℕ) (outline : List OutlineRow) : Type 0 where
  pub one_each : length outline ≡ length order
  pub each : (k : ℕ) → k < length order → IsOutlineRow tree order k (outline_row_at outline k)

-- a row for each item in preorder: an item, then the items below it
abbrev pub IsOutline : List ItemRow → List OutlineRow → Type 0
IsOutline tree outline = (order : List ℕ) × (IsPreorder tree order × AreOutlineRows tree order outline)
