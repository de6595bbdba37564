-- A network whose activities can be shortened at a price.
use Rattle.std.specs.Prelude.{ℕ, ◌≤◌, List, All, length, slice_index_or}
use Rattle.pc_model.specs.declared.PieceRow.{PieceRow}
use Rattle.pc_model.specs.declared.Term.{Term}
use Rattle.pc_model.specs.declared.limits.TheConstants.{MAX_PIECES, MAX_SLOPE}
use Rattle.pc_model.specs.Network.{Network}
use Rattle.pc_model.specs.Cost.{Knees}
use Rattle.pc_model.specs.Pieces.{knees_of}

-- a network, what its activities may last and cost, the further pieces of their costs, and what the project, its events
-- and its activities are called
pub record PricedNetwork : Type 0 where
  pub network : Network
  pub terms : List Term
  pub pieces : List PieceRow
  pub project : List ℕ
  pub events : List (List ℕ)
  pub activities : List (List ℕ)

-- the knees of a network's activities
abbrev pub knees_in : PricedNetwork → Knees
knees_in net = knees_of net.terms net.pieces

-- the i-th piece; past their end one of no units
abbrev pub piece_at : List PieceRow → ℕ → PieceRow
piece_at pieces i = slice_index_or pieces i (record { activity = 0; units = 0; slope = 0 })

-- no more pieces than a project may have, and none with a slope above its limit
pub record ArePiecesWithinLimits (pieces : List PieceRow) : Type 0 where
  pub few : length pieces ≤ MAX_PIECES
  pub gentle : All (λ piece. piece.slope ≤ MAX_SLOPE) pieces
