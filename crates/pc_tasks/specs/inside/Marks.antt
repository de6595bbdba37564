-- Marks of tasks: one for each, by what a test says of its number.
use Rattle.std.specs.Prelude.{◌≡◌, ℕ, ◌<◌, Bool, false, List, length, slice_index_or}

-- there is one mark for each of n numbers, and it is what the test says
pub record AreMarks (n : ℕ) (test : ℕ → Bool) (marks : List Bool) : Type 0 where
  pub one_each : length marks ≡ n
  pub each : (i : ℕ) → i < n → slice_index_or marks i false ≡ test i
