-- Greatest, first and listed numbers.
-- Here is what no clause of a top call and no law reaches.
use Rattle.std.specs.Prelude.{ℕ, ◌<◌, List, length, slice_index}
use Rattle.pc_model.specs.Greatest.{StandsBelow}

-- xs has the numbers below n that have P, each once, from the least up
pub record IsListed (P : ℕ → Type 0) (n : ℕ) (xs : List ℕ) : Type 0 where
  pub each : (k : ℕ) → k < length xs → (slice_index xs k < n) × P (slice_index xs k)
  pub every : (v : ℕ) → v < n → P v → StandsBelow xs (length xs) v
  pub rising : (j k : ℕ) → j < k → k < length xs → slice_index xs j < slice_index xs k
