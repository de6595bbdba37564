-- The critical path that is picked if there are several.
-- Here is what no clause of a top call and no law reaches.
use Rattle.std.specs.Prelude.{ℕ, List}

-- what `longest` finds: the greatest sum over the walks from the start to the end, that to each event, and the
-- picked walk
pub record LongestWalk : Type 0 where
  pub length : ℕ
  pub times : List ℕ
  pub path : List ℕ
