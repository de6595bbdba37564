-- The texts of cells.
use Rattle.std.specs.Prelude.{ℕ, zero, suc, List, [], ◌∷◌, decimal}
use Rattle.std.specs.Fmt.{signed_decimal}
use Rattle.pc_edges.specs.page.Cells.{left, right}
use Rattle.pc_edges.specs.declared.page.cells.Cell.{Cell}
use Rattle.pc_edges.specs.declared.page.cells.Cell.TheVariants.{Text, Number, Signed}
use Rattle.pc_edges.specs.declared.page.cells.Fill.{Fill}
use Rattle.pc_edges.specs.declared.page.cells.Fill.TheVariants.{Plain, Left, Right}

-- a text as a cell of the column
abbrev pub filled : Fill → List ℕ → List ℕ
filled Plain = λ text. text
filled (Left width) = left width
filled (Right width) = right width

-- the texts, each filled by its own
abbrev pub filled_by : List (List ℕ → List ℕ) → List (List ℕ) → List (List ℕ)
filled_by (fill ∷ fills) (text ∷ texts) = fill text ∷ filled_by fills texts
filled_by fills texts = []

-- what a cell says
abbrev pub cell_text : Cell → List ℕ
cell_text (Text text) = text.now
cell_text (Number number) = decimal number
cell_text (Signed number) = signed_decimal number

-- what is before cell i of a row
abbrev pub gap_before : ℕ → List ℕ
gap_before zero = []
gap_before (suc i) = 32 ∷ []
