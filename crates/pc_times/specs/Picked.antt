-- The critical path that is picked if there are several.
use Rattle.std.specs.Prelude.{◌≡◌, ℕ, ◌<◌, List, [], ◌∷◌, length, Contains}
use Rattle.pc_model.specs.Greatest.{IsFirst}
use Rattle.pc_model.specs.Walk.{from_of, to_of, IsWalk, walk_sum}
use Rattle.pc_model.specs.Network.{Network, IsLongest}

-- a walk from the start to the end, and no other has a greater sum of the lengths
abbrev pub IsLongestWalk : Network → List ℕ → List ℕ → Type 0
IsLongestWalk net lengths walk =
    IsWalk net.arcs net.start walk net.end × IsLongest net lengths (walk_sum lengths walk)

-- activity a is on a longest walk
abbrev pub IsCritical : Network → List ℕ → ℕ → Type 0
IsCritical net lengths a = (walk : List ℕ) × IsLongestWalk net lengths walk × Contains walk a

-- activity a begins at event e and is on a longest walk
abbrev pub IsCriticalAt : Network → List ℕ → ℕ → ℕ → Type 0
IsCriticalAt net lengths e a =
    (a < length net.arcs) × (from_of net.arcs a ≡ e) × IsCritical net lengths a

-- from event e to the end, at each event by the first activity that begins there and is on a longest walk
abbrev pub IsPickedFrom : Network → List ℕ → ℕ → List ℕ → Type 0
IsPickedFrom net lengths e [] = e ≡ net.end
IsPickedFrom net lengths e (a ∷ walk) =
    IsFirst (IsCriticalAt net lengths e) a × IsPickedFrom net lengths (to_of net.arcs a) walk

-- the walk from the start to the end that takes at each event the first activity on a longest walk
abbrev pub IsPickedWalk : Network → List ℕ → List ℕ → Type 0
IsPickedWalk net lengths walk = IsPickedFrom net lengths net.start walk
