-- The pieces of the activities' costs, and the knees that they make.
use Rattle.std.specs.Prelude.{◌==◌, ℕ, ◌+◌, ◌-◌, ◌<◌, ◌≤◌, zero, suc, List, length, filter, drop, sum_by, slice_index_or}
use Rattle.pc_model.specs.declared.Term.{Term}
use Rattle.pc_model.specs.declared.PieceRow.{PieceRow}
use Rattle.pc_model.specs.declared.limits.TheConstants.{MAX_PIECES_EACH}
use Rattle.pc_model.specs.Schedule.{term_at, normal_of, crash_of}
use Rattle.pc_model.specs.Cost.{Knees}

-- the pieces of activity a, in their order
abbrev pub pieces_of : List PieceRow → ℕ → List PieceRow
pieces_of pieces a = filter (λ piece. piece.activity == a) pieces

-- the units of some pieces
abbrev pub units_of : List PieceRow → ℕ
units_of pieces = sum_by (λ piece. piece.units) pieces

-- the slope of an activity's k-th piece: for k = 0 that of its term; past the last piece 0
abbrev pub slope_in : Term → List PieceRow → ℕ → ℕ
slope_in term pieces zero = term.slope
slope_in term pieces (suc k) = (slice_index_or pieces k (record { activity = 0; units = 0; slope = 0 })).slope

-- the duration below which an activity's k-th piece begins: normal for the first piece, and for a later one crash plus
-- the units of this piece and the ones after it
abbrev pub knee_in : Term → List PieceRow → ℕ → ℕ
knee_in term pieces zero = term.normal
knee_in term pieces (suc k) = term.crash + units_of (drop k pieces)

-- by how much the slope of an activity's k-th piece is above that of the piece before
abbrev pub rise_in : Term → List PieceRow → ℕ → ℕ
rise_in term pieces zero = term.slope
rise_in term pieces (suc k) = slope_in term pieces (suc k) - slope_in term pieces k

-- the knees of all activities
abbrev pub knees_of : List Term → List PieceRow → Knees
knees_of terms pieces = record {
  count = λ a. length (pieces_of pieces a) + 1;
  knee = λ a k. knee_in (term_at terms a) (pieces_of pieces a) k;
  rise = λ a k. rise_in (term_at terms a) (pieces_of pieces a) k;
}

-- each piece is one of an activity, no activity has too many, each slope is above the one before, and the pieces leave
-- units to the activity's own slope
pub record ArePieces (terms : List Term) (pieces : List PieceRow) : Type 0 where
  pub named : (i : ℕ) → i < length pieces → (slice_index_or pieces i (record { activity = 0; units = 0; slope = 0 })).activity < length terms
  pub few : (a : ℕ) → a < length terms → length (pieces_of pieces a) ≤ MAX_PIECES_EACH
  pub rising : (a k : ℕ) → a < length terms → k < length (pieces_of pieces a) →
      slope_in (term_at terms a) (pieces_of pieces a) k < slope_in (term_at terms a) (pieces_of pieces a) (k + 1)
  pub leaving : (a : ℕ) → a < length terms → 0 < length (pieces_of pieces a) →
      crash_of terms a + units_of (pieces_of pieces a) < normal_of terms a
