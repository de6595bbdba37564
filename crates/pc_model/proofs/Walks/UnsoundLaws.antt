-- A sound network has none of the properties that make one unsound.
use Rattle.std.proofs.Common.{◌≢◌, ℕ, ◌<◌, List, [], ◌∷◌, sym, inl, inr}
use Rattle.pc_model.specs.Walk.{IsWalk, IsCycle}
use Rattle.pc_model.specs.Network.{Network, IsEntered, IsLeft, IsDangling, IsSound}
use Rattle.pc_model.proofs.Walks.WalkLaws.{last_of_walk}
use Rattle.std.specs.Prelude.{◌⊎◌}

-- the network is not sound: something enters the start or leaves the end, an event dangles, or there is a cycle
abbrev pub IsUnsound : Network → Type 0
IsUnsound net =
    IsEntered net net.start
    ⊎ (IsLeft net net.end ⊎ (((e : ℕ) × (e < net.events) × IsDangling net e) ⊎ ((walk : List ℕ) × IsCycle net.arcs walk)))

-- a walk from the start to another event enters it
entered_by : (net : Network) (e : ℕ) (walk : List ℕ) → IsWalk net.arcs net.start walk e → e ≢ net.start → IsEntered net e
entered_by net e walk walked other =
    elim (last_of_walk net.arcs net.start e walk walked) [
      | inl stays ↦ absurd (other (sym stays.1))
      | inr last ↦ (last.1, last.3, last.5)
    ]

-- a walk from an event other than the end leaves it
left_by : (net : Network) (e : ℕ) (walk : List ℕ) → IsWalk net.arcs e walk net.end → e ≢ net.end → IsLeft net e
left_by net e [] walked other = absurd (other walked)
left_by net e (a ∷ walk) walked other = (a, walked.0, walked.1)

-- no event of a sound network dangles
no_dangling : (net : Network) → IsSound net → (e : ℕ) → e < net.events → IsDangling net e → ⊥
no_dangling net sound e below (inl alone) = let way = sound.reached e below in alone.1 (entered_by net e way.0 way.1 alone.0)
no_dangling net sound e below (inr alone) = let way = sound.reaches e below in alone.1 (left_by net e way.0 way.1 alone.0)

-- a network is not both sound and unsound
pub IsSound-not-IsUnsound : (net : Network) → IsSound net → IsUnsound net → ⊥
IsSound-not-IsUnsound net sound (inl entered) = sound.not_entered entered
IsSound-not-IsUnsound net sound (inr (inl left)) = sound.not_left left
IsSound-not-IsUnsound net sound (inr (inr (inl dangling))) = no_dangling net sound dangling.0 dangling.1 dangling.2
IsSound-not-IsUnsound net sound (inr (inr (inr cycle))) = sound.no_cycle cycle.0 cycle.1
