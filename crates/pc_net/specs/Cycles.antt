-- The first activity on any cycle, and the search for a way back to where an activity begins.
use Rattle.std.specs.Prelude.{◌≢◌, ℕ, ◌<◌, List, length, slice_index}
use Rattle.pc_model.specs.declared.Arc.{Arc}
use Rattle.pc_model.specs.Greatest.{IsFirst, StandsBelow}
use Rattle.pc_model.specs.Walk.{from_of, IsCycle}

-- activity a is one of those of a cycle
abbrev pub LiesOnCycle : List Arc → ℕ → Type 0
LiesOnCycle arcs a = (cycle : List ℕ) × IsCycle arcs cycle × StandsBelow cycle (length cycle) a

-- no two activities of the walk begin at the same event
abbrev pub MeetsOnce : List Arc → List ℕ → Type 0
MeetsOnce arcs walk = (j k : ℕ) → j < k → k < length walk → from_of arcs (slice_index walk j) ≢ from_of arcs (slice_index walk k)

-- a cycle through no event twice that begins with the first activity on any cycle
pub record IsFirstCycle (arcs : List Arc) (walk : List ℕ) : Type 0 where
  pub cycle : IsCycle arcs walk
  pub once : MeetsOnce arcs walk
  pub first : IsFirst (LiesOnCycle arcs) (slice_index walk 0)
