-- The lines of a text: the bytes before each end of a line (10), and those after the last one, if there are any.
-- Here is what no clause of a top call and no law reaches.
use Rattle.std.specs.Prelude.{ℕ, ◌≢◌, List, [], ◌∷◌, ◌++◌}

-- the text of lines that have an end
abbrev pub text_of_lines : List (List ℕ) → List ℕ
text_of_lines [] = []
text_of_lines (line ∷ lines) = line ++ 10 ∷ text_of_lines lines

-- no line ends in the bytes
abbrev pub IsOpen : List ℕ → Type 0
IsOpen [] = Unit {0}
IsOpen (b ∷ bytes) = (b ≢ 10) × IsOpen bytes

-- no line ends in any of them
abbrev pub AreOpen : List (List ℕ) → Type 0
AreOpen [] = Unit {0}
AreOpen (line ∷ lines) = IsOpen line × AreOpen lines
