-- Regions: a number of cells, and live spans of them, one after the other.
-- Here is what no clause of a top call and no law reaches.
use Rattle.std.specs.Prelude.{◌≡◌, ℕ, ◌-◌, ◌<◌, ◌≤◌, List, [], ◌∷◌, ◌++◌, length, take, replicate, sum_by, slice_index_or, slice_set}
use Rattle.pc_cells.specs.declared.region.Span.{Span}
use Rattle.pc_cells.specs.declared.region.Mark.{Mark}
use Rattle.pc_cells.specs.Spans.{Cells}

-- how many cells are in no live span
abbrev pub free_of : Cells → ℕ
free_of region = region.capacity - sum_by length region.spans

-- how many cells the first k spans have together
abbrev pub cells_before : List (List ℕ) → ℕ → ℕ
cells_before spans k = sum_by length (take k spans)

-- the contents of the k-th span
abbrev pub span_at : List (List ℕ) → ℕ → List ℕ
span_at spans k = slice_index_or spans k []

-- the region with xs in the cells of its k-th live span, and the other spans as they are
abbrev pub with_span : Cells → ℕ → List ℕ → Cells
with_span region k xs = record { capacity = region.capacity; spans = slice_set region.spans k xs }

-- s is the k-th live span: it begins after those before it, and has its length
pub record IsSpan (spans : List (List ℕ)) (k : ℕ) (s : Span) : Type 0 where
  pub known : k < length spans
  pub begins : s.place ≡ cells_before spans k
  pub extends : s.len ≡ length (span_at spans k)

-- s is some live span
abbrev pub IsLive : List (List ℕ) → Span → Type 0
IsLive spans s = (k : ℕ) × IsSpan spans k s

-- the region has one more span after the others, of `len` zeros
pub record IsTaken (old new : Cells) (len : ℕ) (s : Span) : Type 0 where
  pub region : new ≡ record { capacity = old.capacity; spans = old.spans ++ replicate len 0 ∷ [] }
  pub span : IsSpan new.spans (length old.spans) s
  pub size : s.len ≡ len

-- the mark counts the spans and the cells of the first live spans, up to some of them
pub record IsMark (spans : List (List ℕ)) (m : Mark) : Type 0 where
  pub known : m.spans ≤ length spans
  pub cells : m.cells ≡ cells_before spans m.spans
