-- When events and activities are expected, given the states of the activities.
use Rattle.std.specs.Prelude.{◌≡◌, ◌≢◌, ℕ, ◌+◌, ◌<◌, ◌==◌, ◌^◌, max, if◌then◌else◌, List, length, slice_index, slice_index_or}
use Rattle.pc_model.specs.Greatest.{IsGreatest}
use Rattle.pc_model.specs.Walk.{from_of, to_of}
use Rattle.pc_model.specs.Network.{Network}
use Rattle.pc_times.specs.declared.forecasts.ActState.{ActState}
use Rattle.pc_times.specs.declared.forecasts.ActState.TheVariants.{Waiting, Started, Finished}

-- a time for each event and a finish for each activity
pub record Expected : Type 0 where
  pub times : List ℕ
  pub finishes : List ℕ

-- the state of activity a; past the end of the list it waits
abbrev pub state_at : List ActState → ℕ → ActState
state_at states a = slice_index_or states a Waiting

-- when an activity of that length is expected to be finished if its beginning event is expected at `begin`: when it
-- was finished, or its length after it was started, but not before as-of; an activity that waits cannot begin before as-of
-- either, unless it takes no time
abbrev pub finish_of : ActState → ℕ → ℕ → ℕ → ℕ
finish_of (Finished at) len as_of begin = at
finish_of (Started at) len as_of begin = max (at + len) as_of
finish_of Waiting len as_of begin = if len == 0 then begin else (max begin as_of + len)

-- n is the finish of an activity that ends at event e
abbrev pub IsFinishAt : Network → List ℕ → ℕ → ℕ → Type 0
IsFinishAt net finishes e n =
    (a : ℕ) × ((a < length net.arcs) × (to_of net.arcs a ≡ e) × (slice_index finishes a ≡ n))

-- the start is expected at 0 and each other event when the last of the activities that end there is; each activity is
-- expected to be finished as its state says
pub record IsForecast (net : Network) (lengths : List ℕ) (states : List ActState) (as_of : ℕ) (expected : Expected) : Type 0 where
  pub one_each : length expected.times ≡ net.events
  pub finish_each : length expected.finishes ≡ length net.arcs
  pub start : slice_index expected.times net.start ≡ 0
  pub event : (e : ℕ) → e < net.events → e ≢ net.start → IsGreatest (IsFinishAt net expected.finishes e) (slice_index expected.times e)
  pub activity : (a : ℕ) → a < length net.arcs → slice_index expected.finishes a ≡ finish_of (state_at states a) (slice_index lengths a) as_of (slice_index expected.times (from_of net.arcs a))

-- the time of a state is below 2 ^ 40
abbrev pub IsSmallState : ActState → Type 0
IsSmallState (Finished at) = at < 2 ^ 40
IsSmallState (Started at) = at < 2 ^ 40
IsSmallState Waiting = Unit {0}

-- one state for each activity
pub record AreStates (net : Network) (states : List ActState) : Type 0 where
  pub one_each : length states ≡ length net.arcs
  pub small : (a : ℕ) → a < length net.arcs → IsSmallState (state_at states a)
