-- Regions: a number of cells, and live spans of them, one after the other.
use Rattle.std.specs.Prelude.{ℕ, List}

-- how many cells there are, and the contents of each live span
pub record Cells : Type 0 where
  pub capacity : ℕ
  pub spans : List (List ℕ)
