-- The pieces of each activity, apart.
use Rattle.std.specs.Prelude.{◌≡◌, ℕ, ◌<◌, List, [], length, slice_index_or}
use Rattle.arrayvec.specs.ArrayVec.{ArrayVec}
use Rattle.pc_model.specs.declared.PieceRow.{PieceRow}
use Rattle.pc_model.specs.Pieces.{pieces_of}

-- the a-th group; past their end one without a piece
abbrev pub group_at : List (ArrayVec PieceRow) → ℕ → List PieceRow
group_at groups a = (slice_index_or groups a (record { items = [] })).items

-- a group for each of n activities, with its pieces in their order
pub record AreGroups (pieces : List PieceRow) (n : ℕ) (groups : List (ArrayVec PieceRow)) : Type 0 where
  pub one_each : length groups ≡ n
  pub each : (a : ℕ) → a < n → group_at groups a ≡ pieces_of pieces a
