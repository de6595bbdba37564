-- The least of amounts that are placed on items.
use Rattle.std.specs.Prelude.{◌≡◌, ℕ, ◌<◌, ℤ, ◌≤ℤ◌, List, Option, Some, None, slice_index_or}

-- the least value of f over the numbers below n that have P; none if no number has it
abbrev pub IsLeastOver : (ℕ → Type 0) → ℕ → (ℕ → ℤ) → Option ℤ → Type 0
IsLeastOver P n f None = (x : ℕ) → x < n → P x → ⊥
IsLeastOver P n f (Some least) =
    ((x : ℕ) × ((x < n) × P x × (f x ≡ least))) × ((x : ℕ) → x < n → P x → least ≤ℤ f x)

-- an amount of a list; none past its end
abbrev pub least_at : List (Option ℤ) → ℕ → Option ℤ
least_at least x = slice_index_or least x None
