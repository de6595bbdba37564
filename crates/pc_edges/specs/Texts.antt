-- Texts made of a text for each of several numbers.
use Rattle.std.specs.Prelude.{ℕ, zero, suc, List, [], ◌++◌}

-- the texts of the numbers below n, from the least up
abbrev pub texts_to : ℕ → (ℕ → List ℕ) → List ℕ
texts_to zero text = []
texts_to (suc n) text = texts_to n text ++ text n
