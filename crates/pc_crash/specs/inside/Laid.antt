-- What is known of the activities, laid out: a row for each, and the knees of all of them one after another.
use Rattle.std.specs.Prelude.{◌≡◌, ℕ, ◌+◌, ◌*◌, ◌<◌, ◌≤◌, List, [], ◌∷◌, length, map, take, slice_index_or, slice_range}
use Rattle.pc_model.specs.declared.Arc.{Arc}
use Rattle.pc_model.specs.declared.Knee.{Knee}
use Rattle.pc_model.specs.declared.PieceRow.{PieceRow}
use Rattle.pc_model.specs.declared.Term.{Term}
use Rattle.pc_model.specs.declared.limits.TheConstants.{MAX_PIECES_EACH}
use Rattle.pc_model.specs.Pieces.{pieces_of}
use Rattle.pc_model.specs.Schedule.{term_at}
use Rattle.pc_model.specs.Walk.{arc_at}
use Rattle.pc_crash.specs.declared.price_table.PriceRow.{PriceRow}
use Rattle.pc_crash.specs.inside.KneeLists.{knee_list}

-- the row of activity a; past their end one of zeros
abbrev pub price_row_at : List PriceRow → ℕ → PriceRow
price_row_at rows a = slice_index_or rows a (record { arc = record { from = 0; to = 0 }; term = record { normal = 0; crash = 0; cost = 0; slope = 0 }; first = 0; count = 0 })

-- the knees that belong to a row
abbrev pub knees_of_row : List Knee → PriceRow → List Knee
knees_of_row knees row = slice_range knees row.first (row.first + row.count)

-- the row is that of activity a
pub record IsPriceRowOf (arcs : List Arc) (terms : List Term) (pieces : List PieceRow) (knees : List Knee) (a : ℕ) (row : PriceRow) : Type 0 where
  pub arc : row.arc ≡ arc_at arcs a
  pub term : row.term ≡ term_at terms a
  pub within : row.first + row.count ≤ length knees
  pub few : row.count ≤ MAX_PIECES_EACH + 1
  pub part : knees_of_row knees row ≡ knee_list (term_at terms a) (pieces_of pieces a)

-- a row for each of the first n activities, and the knees of each before those of the next
pub record AreLaid (arcs : List Arc) (terms : List Term) (pieces : List PieceRow) (n : ℕ) (rows : List PriceRow) (knees : List Knee) : Type 0 where
  pub one_each : length rows ≡ n
  pub same_terms : map (λ row. row.term) rows ≡ take n terms
  pub small : length knees ≤ n * (MAX_PIECES_EACH + 1)
  pub each : (a : ℕ) → a < n → IsPriceRowOf arcs terms pieces knees a (price_row_at rows a)
  pub apart : (a b : ℕ) → a < b → b < n → (price_row_at rows a).first + (price_row_at rows a).count ≤ (price_row_at rows b).first

-- each piece has a slope above the one before, the first above the given one
abbrev pub IsRising : ℕ → List PieceRow → Type 0
IsRising slope [] = Unit {0}
IsRising slope (piece ∷ pieces) = (slope < piece.slope) × IsRising piece.slope pieces
