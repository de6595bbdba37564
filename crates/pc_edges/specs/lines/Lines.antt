-- The lines of a text: the bytes before each end of a line (10), and those after the last one, if there are any.
use Rattle.std.specs.Prelude.{ℕ, ◌==◌, List, [], ◌∷◌, ◌++◌, if◌then◌else◌}

-- the complete lines of a text that continues an open line
abbrev pub lines_behind : List ℕ → List ℕ → List (List ℕ)
lines_behind open_line [] = []
lines_behind open_line (b ∷ bytes) =
    if b == 10 then open_line ∷ lines_behind [] bytes else lines_behind (open_line ++ b ∷ []) bytes

-- the lines of a text that have an end
abbrev pub whole_lines : List ℕ → List (List ℕ)
whole_lines bytes = lines_behind [] bytes

-- the bytes after the last end of a line, if the text continues an open line
abbrev pub open_behind : List ℕ → List ℕ → List ℕ
open_behind open_line [] = open_line
open_behind open_line (b ∷ bytes) = if b == 10 then open_behind [] bytes else open_behind (open_line ++ b ∷ []) bytes

-- the bytes after the last end of a line are a line if there are any
abbrev pub last_line : List ℕ → List (List ℕ)
last_line [] = []
last_line (b ∷ bytes) = (b ∷ bytes) ∷ []

-- all lines of a text
abbrev pub lines_of : List ℕ → List (List ℕ)
lines_of bytes = whole_lines bytes ++ last_line (open_behind [] bytes)
