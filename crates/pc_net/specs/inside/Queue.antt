-- The queue of events whose entering activities are all crossed, as it grows into an order of the events.
use Rattle.std.specs.Prelude.{◌≡◌, ◌≢◌, ℕ, ◌<◌, ◌≤◌, ◌==◌, ◌⊎◌, List, length, slice_index, count_by}
use Rattle.pc_model.specs.Greatest.{StandsBelow}
use Rattle.pc_model.specs.Walk.{from_of, to_of}
use Rattle.pc_model.specs.Network.{Network, IsPartOrder}
use Rattle.pc_net.specs.declared.graph.Side.TheVariants.{Ends}
use Rattle.pc_net.specs.inside.Sides.{events_of}

-- the number of activities that enter each event
pub record AreEntering (net : Network) (counts : List ℕ) : Type 0 where
  pub counts_len : length counts ≡ net.events
  pub count : (v : ℕ) → v < net.events → slice_index counts v ≡ count_by (λ w. w == v) (events_of Ends net.arcs)

-- `waits` has for each activity that is not crossed the event where it ends, and for a crossed one the number of
-- events; `missing` has for each event how many of the activities that enter it are not crossed; `order` has the
-- events that none of these enters
pub record IsWaiting (net : Network) (order missing waits : List ℕ) (IsCrossed : ℕ → Type 0) : Type 0 where
  pub missing_len : length missing ≡ net.events
  pub waits_len : length waits ≡ length net.arcs
  pub counted : (v : ℕ) → v < net.events → slice_index missing v ≡ count_by (λ w. w == v) waits
  pub waits_for : (a : ℕ) → a < length net.arcs → (IsCrossed a × (slice_index waits a ≡ net.events)) ⊎ ((IsCrossed a → ⊥) × (slice_index waits a ≡ to_of net.arcs a))
  pub part : IsPartOrder net order
  pub free : (k : ℕ) → k < length order → slice_index missing (slice_index order k) ≡ 0
  pub placed : (v : ℕ) → v < net.events → slice_index missing v ≡ 0 → StandsBelow order (length order) v

-- the activities that begin at the first events of the order are crossed
abbrev pub IsQueue : Network → List ℕ → List ℕ → ℕ → Type 0
IsQueue net order missing at =
    (at ≤ length order) × ((waits : List ℕ) × IsWaiting net order missing waits (λ a. StandsBelow order at (from_of net.arcs a)))

-- event v is not in the order
abbrev pub IsNotInOrder : List ℕ → ℕ → Type 0
IsNotInOrder order v = (k : ℕ) → k < length order → slice_index order k ≢ v

-- each event that is not in the order is entered from another that is not
abbrev pub IsBlocked : Network → List ℕ → Type 0
IsBlocked net order =
    (v : ℕ) → v < net.events → IsNotInOrder order v → (a : ℕ) × (a < length net.arcs) × (to_of net.arcs a ≡ v) × IsNotInOrder order (from_of net.arcs a)
