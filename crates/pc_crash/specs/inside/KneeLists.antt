-- The knees of one activity as a list.
use Rattle.std.specs.Prelude.{◌≡◌, ℕ, ◌+◌, ◌-◌, ◌<◌, ◌≤◌, List, [], ◌∷◌, length}
use Rattle.pc_model.specs.declared.Knee.{Knee}
use Rattle.pc_model.specs.declared.PieceRow.{PieceRow}
use Rattle.pc_model.specs.declared.Term.{Term}
use Rattle.pc_model.specs.declared.limits.TheConstants.{MAX_DURATION, MAX_PIECES_EACH, MAX_SLOPE}
use Rattle.pc_model.specs.Cost.{Knees}
use Rattle.pc_model.specs.Pieces.{units_of}
use Rattle.pc_model.specs.inside.Pieces.{knee_at}

-- the list has the knees of activity a, each once, from its normal duration down
pub record AreKneesOf (knees : Knees) (a : ℕ) (list : List Knee) : Type 0 where
  pub count : length list ≡ knees.count a
  pub at : (k : ℕ) → k < length list → (knee_at list k).at ≡ knees.knee a k
  pub rise : (k : ℕ) → k < length list → (knee_at list k).rise ≡ knees.rise a k

-- the knees that pieces make one after another above a crash duration, where the slope above the first of them is known
abbrev pub piece_knees : ℕ → ℕ → List PieceRow → List Knee
piece_knees crash slope [] = []
piece_knees crash slope (piece ∷ pieces) =
    record { at = crash + units_of (piece ∷ pieces); rise = piece.slope - slope } ∷ piece_knees crash piece.slope pieces

-- the knees of an activity with a term and these pieces
abbrev pub knee_list : Term → List PieceRow → List Knee
knee_list term pieces = record { at = term.normal; rise = term.slope } ∷ piece_knees term.crash term.slope pieces

-- no more knees than an activity has, none above the greatest duration, and none that rises by more than the greatest slope
pub record AreSmallKnees (list : List Knee) : Type 0 where
  pub few : length list ≤ MAX_PIECES_EACH + 1
  pub low : (k : ℕ) → k < length list → (knee_at list k).at ≤ MAX_DURATION
  pub gentle : (k : ℕ) → k < length list → (knee_at list k).rise ≤ MAX_SLOPE
