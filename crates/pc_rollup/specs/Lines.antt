-- The lines of a level: the items at it and the leaves above it.
use Rattle.std.specs.Prelude.{◌≡◌, ◌⊎◌, ℕ, ◌<◌, ℤ, pos, ◌+ℤ◌, List, length, slice_index, slice_index_or, fold}
use Rattle.pc_wbs.specs.declared.tree.ItemRow.{ItemRow}
use Rattle.pc_wbs.specs.Climb.{HasLevel, IsLeaf}
use Rattle.pc_wbs.specs.Preorder.{IsPreorder}
use Rattle.pc_rollup.specs.declared.levels.LevelLine.{LevelLine}
use Rattle.pc_rollup.specs.Totals.{amount_at}

-- item x is at the level, or a leaf above it
abbrev pub HasLine : List ItemRow → ℕ → ℕ → Type 0
HasLine rows level x =
    HasLevel rows x level ⊎ (IsLeaf rows x × ((own : ℕ) × (HasLevel rows x own × (own < level))))

-- the k-th line; past the end of the list one of item 0 without an amount
abbrev pub line_at : List LevelLine → ℕ → LevelLine
line_at lines k = slice_index_or lines k (record { item = 0; amount = pos 0 })

-- x comes before y in the list
abbrev pub StandsBefore : List ℕ → ℕ → ℕ → Type 0
StandsBefore order x y =
    (j : ℕ) × ((k : ℕ) × ((j < k) × (k < length order) × (slice_index order j ≡ x) × (slice_index order k ≡ y)))

-- a line for each item at the level and each leaf above it, in this order of the items, each with its item's total
pub record AreLines (rows : List ItemRow) (order : List ℕ) (level : ℕ) (totals : List ℤ) (lines : List LevelLine) : Type 0 where
  pub known : (k : ℕ) → k < length lines → (line_at lines k).item < length rows
  pub each : (k : ℕ) → k < length lines → HasLine rows level (line_at lines k).item
  pub amount : (k : ℕ) → k < length lines → (line_at lines k).amount ≡ amount_at totals (line_at lines k).item
  pub every : (x : ℕ) → x < length rows → HasLine rows level x → (k : ℕ) × ((k < length lines) × ((line_at lines k).item ≡ x))
  pub in_order : (j k : ℕ) → j < k → k < length lines → StandsBefore order (line_at lines j).item (line_at lines k).item

-- the same in preorder
abbrev pub AreLevelLines : List ItemRow → ℕ → List ℤ → List LevelLine → Type 0
AreLevelLines rows level totals lines = (order : List ℕ) × (IsPreorder rows order × AreLines rows order level totals lines)

-- the sum of the lines' amounts
abbrev pub sum_of : List LevelLine → ℤ
sum_of lines = fold (λ sum line. sum +ℤ line.amount) (pos 0) lines
