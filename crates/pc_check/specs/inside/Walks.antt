-- The walks that the steps of a certificate name.
-- Here is what no clause of a top call and no law reaches.
use Rattle.std.specs.Prelude.{ℕ, Option, Some, None}
use Rattle.pc_check.specs.declared.walk.Reached.{Reached}

-- the sum of a walk's lengths so far, and 0 if the steps are no walk
abbrev pub sum_of_reached : Option Reached → ℕ
sum_of_reached None = 0
sum_of_reached (Some at) = at.sum
