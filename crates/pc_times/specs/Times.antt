-- Event times: the greatest sums of lengths over the walks from the start, and over those to the end.
use Rattle.std.specs.Prelude.{◌≡◌, ℕ, ◌<◌, ◌≤◌, List, length, slice_index}
use Rattle.pc_model.specs.Greatest.{IsGreatest}
use Rattle.pc_model.specs.Walk.{IsSumOfWalk}
use Rattle.pc_model.specs.Network.{Network, IsEarly}
use Rattle.pc_times.specs.declared.TheConstants.{MAX_ACTIVITY_LENGTH}

-- one length for each activity, none above the greatest one
pub record AreLengths (net : Network) (lengths : List ℕ) : Type 0 where
  pub one_each : length lengths ≡ length net.arcs
  pub small : (a : ℕ) → a < length net.arcs → slice_index lengths a ≤ MAX_ACTIVITY_LENGTH

-- n is the greatest sum of the lengths over the walks from event e to the end
abbrev pub IsTail : Network → List ℕ → ℕ → ℕ → Type 0
IsTail net lengths e n = IsGreatest (IsSumOfWalk net.arcs lengths e net.end) n

-- one time for each event, the greatest sum of the lengths over the walks from the start to it
pub record AreEarly (net : Network) (lengths times : List ℕ) : Type 0 where
  pub one_each : length times ≡ net.events
  pub each : (e : ℕ) → e < net.events → IsEarly net lengths e (slice_index times e)
