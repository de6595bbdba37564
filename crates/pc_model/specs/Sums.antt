-- Sums over the activities 0, 1, .. below a count.
use Rattle.std.specs.Prelude.{ℕ, ◌+◌, ◌==◌, if◌then◌else◌, zero, suc}

-- f 0 + f 1 + .. + f (n - 1)
abbrev pub sum_to : ℕ → (ℕ → ℕ) → ℕ
sum_to zero f = 0
sum_to (suc n) f = sum_to n f + f n

-- the sum of f over those of the first m activities that `place` puts at event e:
-- what enters e if `place` is an activity's ending event, what leaves e if it is the beginning one
abbrev pub at_event : ℕ → (ℕ → ℕ) → (ℕ → ℕ) → ℕ → ℕ
at_event m place f e = sum_to m (λ a. if place a == e then f a else 0)
