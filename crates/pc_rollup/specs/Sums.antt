-- Sums over those numbers below a count that have a property.
use Rattle.std.specs.Prelude.{◌≡◌, ◌⊎◌, ℕ, zero, suc, ℤ, pos, ◌+ℤ◌}

-- total is the sum of f over those of the numbers below n that have P
abbrev pub IsSumOver : (ℕ → Type 0) → ℕ → (ℕ → ℤ) → ℤ → Type 0
IsSumOver P zero f total = total ≡ pos 0
IsSumOver P (suc n) f total =
    (P n × ((rest : ℤ) × (IsSumOver P n f rest × (total ≡ rest +ℤ f n)))) ⊎ ((P n → ⊥) × IsSumOver P n f total)
