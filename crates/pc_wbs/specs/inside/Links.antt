-- The links of a tree: to each row's first child and to its next sibling.
use Rattle.std.specs.Prelude.{◌≡◌, ◌≢◌, ℕ, ◌+◌, ◌<◌, ◌≤◌, List, length, Option, Some, None, slice_index_or}
use Rattle.pc_wbs.specs.declared.tree.ItemRow.{ItemRow}
use Rattle.pc_wbs.specs.Climb.{parent_of, climb}

-- the first child of p among the rows from `from` on, if there is one
abbrev pub IsFirstChild : List ItemRow → ℕ → ℕ → Option ℕ → Type 0
IsFirstChild rows p from None = (x : ℕ) → from ≤ x → x < length rows → parent_of rows x ≢ Some p
IsFirstChild rows p from (Some c) =
    (from ≤ c) × (c < length rows) × (parent_of rows c ≡ Some p) × ((x : ℕ) → from ≤ x → x < c → parent_of rows x ≢ Some p)

-- what a link says; none past the end
abbrev pub linked_row_at : List (Option ℕ) → ℕ → Option ℕ
linked_row_at links x = slice_index_or links x None

-- each row's first child among the rows from `from` on
pub record AreFirstChildren (rows : List ItemRow) (from : ℕ) (firsts : List (Option ℕ)) : Type 0 where
  pub one_each : length firsts ≡ length rows
  pub first : (p : ℕ) → p < length rows → IsFirstChild rows p from (linked_row_at firsts p)

-- the next sibling of each row from `from` on
pub record AreNextSiblings (rows : List ItemRow) (from : ℕ) (nexts : List (Option ℕ)) : Type 0 where
  pub one_each : length nexts ≡ length rows
  pub next : (x p : ℕ) → from ≤ x → x < length rows → parent_of rows x ≡ Some p → IsFirstChild rows p (x + 1) (linked_row_at nexts x)
  pub alone : (x : ℕ) → x < length rows → parent_of rows x ≡ None → linked_row_at nexts x ≡ None
  pub later : (x : ℕ) → x < from → x < length rows → linked_row_at nexts x ≡ None

-- the next sibling of x, or else of the nearest row above it that has one
abbrev pub IsNextBeside : List ItemRow → List (Option ℕ) → ℕ → Option ℕ → Type 0
IsNextBeside rows nexts x None = (k y : ℕ) → climb rows k x ≡ Some y → linked_row_at nexts y ≡ None
IsNextBeside rows nexts x (Some next) =
    (k : ℕ) × ((y : ℕ) × ((climb rows k x ≡ Some y) × (linked_row_at nexts y ≡ Some next) × ((j z : ℕ) → j < k → climb rows j x ≡ Some z → linked_row_at nexts z ≡ None)))
