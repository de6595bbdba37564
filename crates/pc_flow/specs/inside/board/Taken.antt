-- Spans that are taken one after another.
use Rattle.std.specs.Prelude.{◌≡◌, ℕ, ◌+◌, List, [], ◌∷◌, ◌++◌, length, replicate}
use Rattle.pc_cells.specs.Spans.{Cells}
use Rattle.pc_cells.specs.inside.Spans.{IsSpan}
use Rattle.pc_flow.specs.declared.board.board.Column.{Column}
use Rattle.pc_flow.specs.declared.board.board.Columns.{Columns}
use Rattle.pc_flow.specs.inside.board.Places.{place_of, span_of}

-- eight spans with a zero for each event, and after them six with one for each activity
abbrev pub zeros : ℕ → ℕ → List (List ℕ)
zeros events activities =
    replicate events 0 ∷ replicate events 0 ∷ replicate events 0 ∷ replicate events 0 ∷ replicate events 0 ∷ replicate events 0
    ∷ replicate events 0 ∷ replicate events 0 ∷ replicate activities 0 ∷ replicate activities 0
    ∷ replicate activities 0 ∷ replicate activities 0 ∷ replicate activities 0 ∷ replicate activities 0 ∷ []

-- the region has these after its spans, and they are the columns
pub record AreColumnsTaken (old new : Cells) (events activities : ℕ) (columns : Columns) : Type 0 where
  pub region : new ≡ record { capacity = old.capacity; spans = old.spans ++ zeros events activities }
  pub spans : (column : Column) → IsSpan new.spans (length old.spans + place_of column) (span_of columns column)
