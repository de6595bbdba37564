-- Why rows are not a tree, each cause with those before it denied.
use Rattle.std.specs.Prelude.{◌≡◌, ◌≢◌, ℕ, ◌+◌, ◌<◌, List, length, slice_index, Some, None}
use Rattle.pc_model.specs.declared.limits.TheConstants.{MAX_LEVEL}
use Rattle.pc_model.specs.Greatest.{IsFirst}
use Rattle.pc_wbs.specs.declared.tree.ItemRow.{ItemRow}
use Rattle.pc_wbs.specs.declared.error.TreeError.{TreeError}
use Rattle.pc_wbs.specs.declared.error.TreeError.TheVariants.{NoTop, SecondTop, Loop, TooDeep, OutOfMemory}
use Rattle.pc_wbs.specs.Climb.{parent_of, IsTop, IsOnlyTop, HasLevel, IsOnLoop}

-- the second of the rows without a parent
pub record IsSecondTop (rows : List ItemRow) (item : ℕ) : Type 0 where
  pub is_top : IsTop rows item
  pub earlier : (first : ℕ) × ((first < item) × (IsTop rows first × ((x : ℕ) → x < item → IsTop rows x → x ≡ first)))

-- the rows of a loop from x on, each followed by its parent, until the parent is x; none occurs twice
pub record IsLoopFrom (rows : List ItemRow) (x : ℕ) (loop : List ℕ) : Type 0 where
  pub some : 0 < length loop
  pub starts : slice_index loop 0 ≡ x
  pub steps : (k : ℕ) → k + 1 < length loop → parent_of rows (slice_index loop k) ≡ Some (slice_index loop (k + 1))
  pub closes : (k : ℕ) → k + 1 ≡ length loop → parent_of rows (slice_index loop k) ≡ Some x
  pub once : (j k : ℕ) → j < k → k < length loop → slice_index loop j ≢ slice_index loop k

-- row x is on a loop
abbrev pub IsLooped : List ItemRow → ℕ → Type 0
IsLooped rows x = (x < length rows) × IsOnLoop rows x

-- row x is deeper than a tree may be
abbrev pub IsTooDeep : List ItemRow → ℕ → Type 0
IsTooDeep rows x = (x < length rows) × ((level : ℕ) × (HasLevel rows x level × (MAX_LEVEL < level)))

-- the cause of each refusal
abbrev pub IsTreeError : List ItemRow → TreeError → Type 0
IsTreeError rows NoTop = (x : ℕ) → x < length rows → parent_of rows x ≢ None
IsTreeError rows (SecondTop item) = IsSecondTop rows item
IsTreeError rows (Loop loop) =
    ((top : ℕ) × IsOnlyTop rows top) × ((x : ℕ) × (IsFirst (IsLooped rows) x × IsLoopFrom rows x loop))
IsTreeError rows (TooDeep item level) =
    ((top : ℕ) × IsOnlyTop rows top) × ((x : ℕ) → IsLooped rows x → ⊥) × IsFirst (IsTooDeep rows) item × HasLevel rows item level
IsTreeError rows OutOfMemory = Unit {0}
