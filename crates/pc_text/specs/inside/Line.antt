-- What contracts see of a line: the bytes on it, and how many it can hold.
-- Here is what no clause of a top call and no law reaches.
use Rattle.std.specs.Prelude.{ℕ, List}

-- the bytes on the line, and the most that it can hold
pub record Line : Type 0 where
  pub bytes : List ℕ
  pub room : ℕ
