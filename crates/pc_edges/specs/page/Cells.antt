-- Cells of a row: texts that spaces fill to the width of their columns; and rows of cells.
use Rattle.std.specs.Prelude.{ℕ, ◌-◌, List, [], ◌∷◌, ◌++◌, length, map}
use Rattle.pc_text.specs.Line.{spaces}

-- a cell with the text at its left; a longer text is not shortened
abbrev pub left : ℕ → List ℕ → List ℕ
left width text = text ++ spaces (width - length text)

-- a cell with the text at its right; a longer text is not shortened
abbrev pub right : ℕ → List ℕ → List ℕ
right width text = spaces (width - length text) ++ text

-- the cells with a space between each two, and the end of the line
abbrev pub row : List (List ℕ) → List ℕ
row [] = 10 ∷ []
row (cell ∷ []) = cell ++ 10 ∷ []
row (cell ∷ next ∷ cells) = cell ++ (32 ∷ row (next ∷ cells))

-- the texts as cells of columns, from the first on. A column has the word above it, and what becomes of a text in it
abbrev pub cells_in : List (List ℕ × (List ℕ → List ℕ)) → List (List ℕ) → List (List ℕ)
cells_in (column ∷ columns) (text ∷ texts) = column.1 text ∷ cells_in columns texts
cells_in columns texts = []

-- the row of the words above the columns
abbrev pub head_row : List (List ℕ × (List ℕ → List ℕ)) → List ℕ
head_row columns = row (map (λ column. column.1 column.0) columns)
