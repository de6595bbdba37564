-- What the passes over the events and activities of a network need, and the test for critical activities.
use Rattle.std.specs.Prelude.{◌≡◌, ℕ, ◌+◌, ◌*◌, ◌<◌, ◌≤◌, List, length, slice_index}
use Rattle.pc_model.specs.Walk.{from_of, to_of, IsWalk, IsSumOfWalk}
use Rattle.pc_model.specs.Network.{Network, IsInRange, IsSound, IsEarly}
use Rattle.pc_times.specs.Times.{IsTail}
use Rattle.pc_model.specs.declared.limits.TheConstants.{MAX_EVENTS}
use Rattle.pc_times.specs.declared.TheConstants.{MAX_ACTIVITY_LENGTH}

-- the network is sound, and each walk has fewer activities than there are events, so that sums over walks stay small
pub record HasBoundedWalks (net : Network) (lengths : List ℕ) : Type 0 where
  pub ranged : IsInRange net
  pub sound : IsSound net
  pub few : net.events ≤ MAX_EVENTS
  pub short : (e f : ℕ) (walk : List ℕ) → f < net.events → IsWalk net.arcs e walk f → length walk < net.events
  pub fits : (e f n : ℕ) → f < net.events → IsSumOfWalk net.arcs lengths e f n → n ≤ net.events * MAX_ACTIVITY_LENGTH

-- the times of the events where the activities that enter event e begin are the greatest sums to them
pub record AreEarlyBefore (net : Network) (lengths times : List ℕ) (e : ℕ) : Type 0 where
  pub in_range : e < net.events
  pub one_each : length times ≡ net.events
  pub each : (a : ℕ) → a < length net.arcs → to_of net.arcs a ≡ e → IsEarly net lengths (from_of net.arcs a) (slice_index times (from_of net.arcs a))

-- the tails of the events where the activities that leave event e end are the greatest sums from them
pub record AreTailsAfter (net : Network) (lengths tails : List ℕ) (e : ℕ) : Type 0 where
  pub in_range : e < net.events
  pub one_each : length tails ≡ net.events
  pub each : (a : ℕ) → a < length net.arcs → from_of net.arcs a ≡ e → IsTail net lengths (to_of net.arcs a) (slice_index tails (to_of net.arcs a))

-- activity a begins at event e, and its length with the sums to e and from its end is the sum to the end event
abbrev pub HasNoSlack : Network → List ℕ → List ℕ → List ℕ → ℕ → ℕ → Type 0
HasNoSlack net lengths times tails e a =
    (a < length net.arcs)
    × (from_of net.arcs a ≡ e)
    × (slice_index times e + slice_index lengths a + slice_index tails (to_of net.arcs a) ≡ slice_index times net.end)
