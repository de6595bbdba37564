-- The faults of the pieces of the activities' costs (F33 to F35).
use Rattle.std.specs.Prelude.{◌≡◌, ℕ, ◌+◌, ◌<◌, ◌≤◌, List, [], length, map, take, slice_index, slice_index_or}
use Rattle.pc_model.specs.declared.PieceRow.{PieceRow}
use Rattle.pc_model.specs.declared.Term.{Term}
use Rattle.pc_model.specs.declared.limits.TheConstants.{MAX_PIECES_EACH}
use Rattle.pc_model.specs.Pieces.{pieces_of, slope_in, units_of}
use Rattle.pc_model.specs.Schedule.{term_at}
use Rattle.pc_crash.specs.Priced.{piece_at}
use Rattle.pc_deck.specs.Deck.{Deck}
use Rattle.pc_faults.specs.Faults.{too_many_pieces, slope_not_rising, nothing_left}
use Rattle.pc_faults.specs.declared.fault.Fault.{Fault}
use Rattle.pc_project.specs.Project.{pieces_in, terms_in}

-- the faults of a piece that follows `count` pieces of its activity, which have `units` units together; `slope` is the slope
-- of the last of them, or the activity's own if there is none. Each fault names this record and this code
pub data HasFlaw (term : Term) (count slope units : ℕ) (piece : PieceRow) (row : ℕ) (code : List ℕ) (fault : Fault) : Type 0 where
  -- F33: the activity already has as many pieces as it may have
  one_too_many : MAX_PIECES_EACH ≤ count → fault ≡ too_many_pieces row code → HasFlaw term count slope units piece row code fault
  -- F34: the slope does not rise
  not_rising : piece.slope ≤ slope → fault ≡ slope_not_rising row code → HasFlaw term count slope units piece row code fault
  -- F35: with this piece, the pieces take all units between normal and crash
  none_left : term.normal ≤ term.crash + (units + piece.units) → fault ≡ nothing_left row code → HasFlaw term count slope units piece row code fault

-- the pieces before the i-th that are of the same activity
abbrev pub pieces_before : List PieceRow → ℕ → List PieceRow
pieces_before pieces i = pieces_of (take i pieces) (piece_at pieces i).activity

-- the faults of the i-th piece of a list, given the pieces before it
abbrev pub HasFlawAt : List Term → List PieceRow → ℕ → ℕ → List ℕ → Fault → Type 0
HasFlawAt terms pieces i row code fault =
    HasFlaw (term_at terms (piece_at pieces i).activity) (length (pieces_before pieces i))
    (slope_in (term_at terms (piece_at pieces i).activity) (pieces_before pieces i) (length (pieces_before pieces i)))
    (units_of (pieces_before pieces i)) (piece_at pieces i) row code fault

-- the faults of a deck's i-th PIECE card
abbrev pub HasPieceFaultAt : Deck → ℕ → Fault → Type 0
HasPieceFaultAt deck i fault =
    HasFlawAt (terms_in deck) (pieces_in deck) i (slice_index (map (λ piece. piece.row) deck.pieces) i)
    (slice_index_or (map (λ piece. piece.activity) deck.pieces) i []) fault

-- the faults of its PIECE cards
abbrev pub HasPieceFault : Deck → Fault → Type 0
HasPieceFault deck fault = (i : ℕ) × (i < length deck.pieces) × HasPieceFaultAt deck i fault

-- none of them has a fault
abbrev pub HasNoPieceFault : Deck → Type 0
HasNoPieceFault deck = (fault : Fault) → HasPieceFault deck fault → ⊥
