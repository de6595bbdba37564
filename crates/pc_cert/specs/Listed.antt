-- Lists of the values of a function at the numbers below a count.
use Rattle.std.specs.Prelude.{ℕ, zero, suc, List, [], ◌∷◌, ◌++◌}

-- what the numbers below n give, from the least up
abbrev pub listed : {A : Type 0} → ℕ → (ℕ → A) → List A
listed zero each = []
listed (suc n) each = listed n each ++ each n ∷ []
