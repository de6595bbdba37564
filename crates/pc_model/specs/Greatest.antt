-- Greatest, first and listed numbers.
use Rattle.std.specs.Prelude.{◌≡◌, ◌==◌, if◌then◌else◌, ℕ, ◌+◌, ◌<◌, ◌≤◌, List, [], ◌∷◌, slice_index}

-- n is the greatest number with P
pub record IsGreatest (P : ℕ → Type 0) (n : ℕ) : Type 0 where
  pub attained : P n
  pub bound : (m : ℕ) → P m → m ≤ n

-- a is the first number with P
pub record IsFirst (P : ℕ → Type 0) (a : ℕ) : Type 0 where
  pub holds : P a
  pub first : (b : ℕ) → b < a → P b → ⊥

-- v is one of the first n elements of xs
abbrev pub StandsBelow : List ℕ → ℕ → ℕ → Type 0
StandsBelow xs n v = (j : ℕ) × (j < n) × (slice_index xs j ≡ v)

-- the places of x among ys, counted from i
abbrev pub places : ℕ → ℕ → List ℕ → List ℕ
places x i [] = []
places x i (y ∷ ys) = if y == x then i ∷ places x (i + 1) ys else places x (i + 1) ys
