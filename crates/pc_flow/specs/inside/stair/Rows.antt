-- The staircase that a list of knees makes.
use Rattle.std.specs.Prelude.{ℕ, List, length}
use Rattle.pc_model.specs.declared.Knee.{Knee}
use Rattle.pc_model.specs.inside.Pieces.{knee_at}
use Rattle.pc_laws.specs.Stair.{Stair}

-- the staircase of these knees and this crash duration
abbrev pub stair : List Knee → ℕ → Stair
stair knees crash = record {
  count = length knees;
  knee = λ k. (knee_at knees k).at;
  rise = λ k. (knee_at knees k).rise;
  crash = crash;
}
