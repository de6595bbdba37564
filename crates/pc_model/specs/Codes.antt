-- Codes of things by their numbers.
use Rattle.std.specs.Prelude.{◌≢◌, ℕ, ◌<◌, List, [], length, slice_index_or}

-- the text at a place of a list, as a code by its number or a field of a record; the empty text past the end
abbrev pub text_at : List (List ℕ) → ℕ → List ℕ
text_at texts i = slice_index_or texts i []

-- no two places have the same code
abbrev pub IsNamedOnce : List (List ℕ) → Type 0
IsNamedOnce codes = (j k : ℕ) → j < k → k < length codes → text_at codes j ≢ text_at codes k
