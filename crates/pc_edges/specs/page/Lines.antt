-- Lines of reports: a word, what follows it, and the end of the line.
use Rattle.std.specs.Prelude.{ℕ, List, [], ◌∷◌, ◌++◌, decimal}

-- the word, the text, and the end of the line
abbrev pub word_line : List ℕ → List ℕ → List ℕ
word_line word text = word ++ (text ++ 10 ∷ [])

-- the word, the number, and the end of the line
abbrev pub number_line : List ℕ → ℕ → List ℕ
number_line word n = word_line word (decimal n)

-- the word, two texts with a space between them, and the end of the line
abbrev pub pair_line : List ℕ → List ℕ → List ℕ → List ℕ
pair_line word first second = word ++ (first ++ (32 ∷ (second ++ 10 ∷ [])))

-- the word, a text, a space, the number, and the end of the line
abbrev pub named_line : List ℕ → List ℕ → ℕ → List ℕ
named_line word text n = pair_line word text (decimal n)
