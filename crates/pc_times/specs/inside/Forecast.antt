-- When events and activities are expected, given the states of the activities.
-- Here is what no clause of a top call and no law reaches.
use Rattle.std.specs.Prelude.{◌≡◌, ◌≢◌, ℕ, ◌+◌, ◌<◌, ◌≤◌, ◌^◌, List, length, slice_index}
use Rattle.pc_model.specs.Walk.{from_of, to_of}
use Rattle.pc_model.specs.Network.{Network}
use Rattle.pc_times.specs.declared.TheConstants.{MAX_TIME}
use Rattle.pc_times.specs.declared.forecasts.ActState.{ActState}
use Rattle.pc_times.specs.Forecast.{state_at, finish_of}

-- the finish of activity a, given the times of events
abbrev pub finish_at : Network → List ℕ → List ActState → ℕ → List ℕ → ℕ → ℕ
finish_at net lengths states as_of times a =
    finish_of (state_at states a) (slice_index lengths a) as_of (slice_index times (from_of net.arcs a))

-- n is the greatest value of g for the activities that end at event e, or 0 if there are none
pub record IsLastAt (net : Network) (g : ℕ → ℕ) (e n : ℕ) : Type 0 where
  pub above : (a : ℕ) → a < length net.arcs → to_of net.arcs a ≡ e → g a ≤ n
  pub met : (e ≢ net.start) → (a : ℕ) × ((a < length net.arcs) × (to_of net.arcs a ≡ e) × (g a ≡ n))
  pub none : e ≡ net.start → n ≡ 0

-- the finishes of the first n activities, from the times of all events
pub record AreFinishes (net : Network) (lengths : List ℕ) (states : List ActState) (as_of : ℕ) (times : List ℕ) (n : ℕ) (finishes : List ℕ) : Type 0 where
  pub one_each : length finishes ≡ n
  pub each : (a : ℕ) → a < n → slice_index finishes a ≡ finish_at net lengths states as_of times a

-- each event has the last finish of the activities that end there, by these times
pub record AreLast (net : Network) (lengths : List ℕ) (states : List ActState) (as_of : ℕ) (times : List ℕ) : Type 0 where
  pub one_each : length times ≡ net.events
  pub each : (e : ℕ) → e < net.events → IsLastAt net (finish_at net lengths states as_of times) e (slice_index times e)
  pub small : (e : ℕ) → slice_index times e ≤ 2 ^ 40 + MAX_TIME
