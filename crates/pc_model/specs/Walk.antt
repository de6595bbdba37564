-- Walks along activities, and the sums of lengths over them.
use Rattle.std.specs.Prelude.{◌≡◌, ◌≢◌, ℕ, ◌+◌, ◌<◌, List, [], ◌∷◌, length, slice_index, slice_index_or}
use Rattle.pc_model.specs.declared.Arc.{Arc}

-- the activity a; past the end of the list one from event 0 to event 0
abbrev pub arc_at : List Arc → ℕ → Arc
arc_at arcs a = slice_index_or arcs a (record { from = 0; to = 0 })

-- the event where activity a begins
abbrev pub from_of : List Arc → ℕ → ℕ
from_of arcs a = (arc_at arcs a).from

-- the event where activity a ends
abbrev pub to_of : List Arc → ℕ → ℕ
to_of arcs a = (arc_at arcs a).to

-- the listed activities lead from event e to event f, each beginning where the one before ends
abbrev pub IsWalk : List Arc → ℕ → List ℕ → ℕ → Type 0
IsWalk arcs e [] f = e ≡ f
IsWalk arcs e (a ∷ walk) f = (a < length arcs) × (from_of arcs a ≡ e) × IsWalk arcs (to_of arcs a) walk f

-- a walk that is not empty and ends where it began
abbrev pub IsCycle : List Arc → List ℕ → Type 0
IsCycle arcs walk = (walk ≢ []) × ((e : ℕ) × IsWalk arcs e walk e)

-- the sum of the activities' lengths along a walk
abbrev pub walk_sum : List ℕ → List ℕ → ℕ
walk_sum lengths [] = 0
walk_sum lengths (a ∷ walk) = slice_index lengths a + walk_sum lengths walk

-- n is the sum of the lengths along some walk from e to f
abbrev pub IsSumOfWalk : List Arc → List ℕ → ℕ → ℕ → ℕ → Type 0
IsSumOfWalk arcs lengths e f n = (walk : List ℕ) × IsWalk arcs e walk f × (walk_sum lengths walk ≡ n)
