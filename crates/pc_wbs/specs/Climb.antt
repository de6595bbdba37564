-- Where repeated parents lead: below, levels, leaves, loops, and what makes rows a tree.
use Rattle.std.specs.Prelude.{◌≡◌, ◌≢◌, ℕ, zero, suc, ◌+◌, ◌<◌, ◌≤◌, min, List, length, Option, Some, None, option_and_then, slice_index_or}
use Rattle.pc_model.specs.declared.limits.TheConstants.{MAX_LEVEL}
use Rattle.pc_wbs.specs.declared.tree.ItemRow.{ItemRow}

-- the parent of row x; none past the end of the rows
abbrev pub parent_of : List ItemRow → ℕ → Option ℕ
parent_of rows x = (slice_index_or rows x (record { parent = None })).parent

-- each parent is a row
abbrev pub AreInRange : List ItemRow → Type 0
AreInRange rows = (x p : ℕ) → x < length rows → parent_of rows x ≡ Some p → p < length rows

-- the row that is k parents up from x, or none if there are fewer
abbrev pub climb : List ItemRow → ℕ → ℕ → Option ℕ
climb rows zero x = Some x
climb rows (suc k) x = option_and_then (climb rows k) (parent_of rows x)

-- y is x itself, or repeated parents lead from x to y
abbrev pub IsBelow : List ItemRow → ℕ → ℕ → Type 0
IsBelow rows x y = (k : ℕ) × (climb rows k x ≡ Some y)

-- row x has no parent
abbrev pub IsTop : List ItemRow → ℕ → Type 0
IsTop rows x = (x < length rows) × (parent_of rows x ≡ None)

-- a top has level 1, and another row is one level deeper than its parent
abbrev pub HasLevel : List ItemRow → ℕ → ℕ → Type 0
HasLevel rows x level =
    (k : ℕ) × ((top : ℕ) × ((climb rows k x ≡ Some top) × (parent_of rows top ≡ None) × (level ≡ k + 1)))

-- row x is nobody's parent
abbrev pub IsLeaf : List ItemRow → ℕ → Type 0
IsLeaf rows x = (y : ℕ) → y < length rows → parent_of rows y ≢ Some x

-- repeated parents lead from row x back to it
abbrev pub IsOnLoop : List ItemRow → ℕ → Type 0
IsOnLoop rows x = (k : ℕ) × (climb rows (k + 1) x ≡ Some x)

-- the row has no parent, and no other row is without one
pub record IsOnlyTop (rows : List ItemRow) (top : ℕ) : Type 0 where
  pub is_top : IsTop rows top
  pub only : (x : ℕ) → x < length rows → parent_of rows x ≡ None → x ≡ top

-- the rows are a tree: one row has no parent, and each row has a level, none deeper than a tree may be
pub record IsTree (rows : List ItemRow) : Type 0 where
  pub top : (x : ℕ) × IsOnlyTop rows x
  pub levels : (x : ℕ) → x < length rows → (level : ℕ) × (HasLevel rows x level × (level ≤ MAX_LEVEL))

-- some row has this level, and no row a deeper one
pub record IsDepth (rows : List ItemRow) (depth : ℕ) : Type 0 where
  pub attained : (x : ℕ) × ((x < length rows) × HasLevel rows x depth)
  pub bound : (x level : ℕ) → x < length rows → HasLevel rows x level → level ≤ depth

-- y is the row at this level that x is below, or x itself where x is not that deep
pub record IsAtLevel (rows : List ItemRow) (x level y : ℕ) : Type 0 where
  pub below : IsBelow rows x y
  pub at_level : (own : ℕ) → HasLevel rows x own → HasLevel rows y (min level own)
