-- Networks of events and activities, what makes one sound, and an order of its events.
use Rattle.std.specs.Prelude.{◌≡◌, ◌≢◌, ℕ, ◌<◌, List, length, slice_index, ◌⊎◌}
use Rattle.pc_model.specs.declared.Arc.{Arc}
use Rattle.pc_model.specs.Greatest.{IsGreatest, StandsBelow}
use Rattle.pc_model.specs.Walk.{from_of, to_of, IsWalk, IsCycle, IsSumOfWalk}

-- events 0, 1, .. below `events`, the start and the end event, and the activities in card order
pub record Network : Type 0 where
  pub events : ℕ
  pub start : ℕ
  pub end : ℕ
  pub arcs : List Arc

-- every event named is an event, the start is not the end, and no activity begins where it ends
pub record IsInRange (net : Network) : Type 0 where
  pub start_in : net.start < net.events
  pub end_in : net.end < net.events
  pub apart : net.start ≢ net.end
  pub from_in : (a : ℕ) → a < length net.arcs → from_of net.arcs a < net.events
  pub to_in : (a : ℕ) → a < length net.arcs → to_of net.arcs a < net.events
  pub not_looped : (a : ℕ) → a < length net.arcs → from_of net.arcs a ≢ to_of net.arcs a

-- some activity ends at event e
abbrev pub IsEntered : Network → ℕ → Type 0
IsEntered net e = (a : ℕ) × (a < length net.arcs) × (to_of net.arcs a ≡ e)

-- some activity begins at event e
abbrev pub IsLeft : Network → ℕ → Type 0
IsLeft net e = (a : ℕ) × (a < length net.arcs) × (from_of net.arcs a ≡ e)

-- event e is not the start and no activity enters it, or it is not the end and no activity leaves it
abbrev pub IsDangling : Network → ℕ → Type 0
IsDangling net e =
    ((e ≢ net.start) × (IsEntered net e → ⊥)) ⊎ ((e ≢ net.end) × (IsLeft net e → ⊥))

-- nothing enters the start or leaves the end, every event is on a walk from the start to the end, and no walk returns
-- to where it began
pub record IsSound (net : Network) : Type 0 where
  pub not_entered : IsEntered net net.start → ⊥
  pub not_left : IsLeft net net.end → ⊥
  pub reached : (e : ℕ) → e < net.events → (walk : List ℕ) × IsWalk net.arcs net.start walk e
  pub reaches : (e : ℕ) → e < net.events → (walk : List ℕ) × IsWalk net.arcs e walk net.end
  pub no_cycle : (walk : List ℕ) → IsCycle net.arcs walk → ⊥

-- the order has events, each at most once, and those where an activity begins before the one where it ends
pub record IsPartOrder (net : Network) (order : List ℕ) : Type 0 where
  pub range : (k : ℕ) → k < length order → slice_index order k < net.events
  pub once : (j k : ℕ) → j < k → k < length order → slice_index order j ≢ slice_index order k
  pub before : (k a : ℕ) → k < length order → a < length net.arcs → to_of net.arcs a ≡ slice_index order k → StandsBelow order k (from_of net.arcs a)

-- all events, each once, and each activity's beginning before its end
pub record IsOrder (net : Network) (order : List ℕ) : Type 0 where
  pub part : IsPartOrder net order
  pub whole : length order ≡ net.events

-- n is the greatest sum of the lengths over the walks from the start to event e
abbrev pub IsEarly : Network → List ℕ → ℕ → ℕ → Type 0
IsEarly net lengths e n = IsGreatest (IsSumOfWalk net.arcs lengths net.start e) n

-- n is the greatest sum of the lengths over the walks from the start to the end
abbrev pub IsLongest : Network → List ℕ → ℕ → Type 0
IsLongest net lengths n = IsEarly net lengths net.end n
