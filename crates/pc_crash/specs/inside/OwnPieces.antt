-- The pieces of one activity, with its term.
use Rattle.std.specs.Prelude.{ℕ, ◌+◌, ◌<◌, ◌≤◌, List, length}
use Rattle.pc_model.specs.declared.PieceRow.{PieceRow}
use Rattle.pc_model.specs.declared.Term.{Term}
use Rattle.pc_model.specs.declared.limits.TheConstants.{MAX_COST, MAX_DURATION, MAX_PIECES_EACH, MAX_SLOPE}
use Rattle.pc_model.specs.Pieces.{slope_in, units_of}

-- no more pieces than an activity may have, each with a slope above the one before, which fit between the crash and the
-- normal duration; and nothing is above its limit
pub record AreOwnPieces (term : Term) (pieces : List PieceRow) : Type 0 where
  pub few : length pieces ≤ MAX_PIECES_EACH
  pub rising : (k : ℕ) → k < length pieces → slope_in term pieces k < slope_in term pieces (k + 1)
  pub within : term.crash + units_of pieces ≤ term.normal
  pub short : term.normal ≤ MAX_DURATION
  pub cheap : term.cost ≤ MAX_COST
  pub gentle : (k : ℕ) → slope_in term pieces k ≤ MAX_SLOPE
