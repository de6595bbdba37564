-- What the fields of a region say.
use Rattle.std.specs.Prelude.{◌≡◌, ℕ, ◌+◌, ◌-◌, ◌^◌, ◌<◌, ◌≤◌, ◌⊎◌, List, length, map, replicate, slice_index, slice_range}
use Rattle.std.specs.List.{range_with_len}
use Rattle.pc_cells.specs.declared.region.Region.TheInside.{Inside}
use Rattle.pc_cells.specs.Spans.{Cells}

-- the cells from the k-th start up to the next
abbrev pub between_starts : List ℕ → List ℕ → ℕ → List ℕ
between_starts cells starts k = slice_range cells (slice_index starts k) (slice_index starts (k + 1))

-- the first n spans that begin and end at these starts
abbrev pub spans_of : List ℕ → List ℕ → ℕ → List (List ℕ)
spans_of cells starts n = map (between_starts cells starts) (range_with_len 0 n)

-- the region of the fields
abbrev pub cells_of : Inside → Cells
cells_of r = record { capacity = length r.cells.items; spans = spans_of r.cells.items r.starts.items r.count }

-- the first n spans are not empty, the first begins at the first cell, and none reaches past the last cell
pub record AreStarts (starts : List ℕ) (n cells : ℕ) : Type 0 where
  pub first : slice_index starts 0 ≡ 0
  pub rising : (k : ℕ) → k < n → slice_index starts k < slice_index starts (k + 1)
  pub within : slice_index starts n ≤ cells

-- places fit their type, there is one entry for the start of a span per cell and one for the end, and the cells hold
-- the live spans
pub record IsLaidOut (r : Inside) : Type 0 where
  pub few : length r.cells.items < 2 ^ 63
  pub room : length r.starts.items ≡ length r.cells.items + 1
  pub starts : AreStarts r.starts.items r.count (length r.cells.items)

-- the cells from one place up to another hold these numbers, and the others what they held before
pub record IsRangeWritten (old new : List ℕ) (from to : ℕ) (xs : List ℕ) : Type 0 where
  pub size : length new ≡ length old
  pub inside : slice_range new from to ≡ xs
  pub outside : (a b : ℕ) → (to ≤ a) ⊎ (b ≤ from) → slice_range new a b ≡ slice_range old a b

-- the cells from one place up to another hold v, and the others what they held before
abbrev pub IsRangeFilled : List ℕ → List ℕ → ℕ → ℕ → ℕ → Type 0
IsRangeFilled old new from to v = IsRangeWritten old new from to (replicate (to - from) v)
