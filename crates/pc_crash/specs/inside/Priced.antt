-- A network whose activities can be shortened at a price.
-- Here is what no clause of a top call and no law reaches.
use Rattle.std.specs.Prelude.{◌≡◌, ℕ, ◌+◌, ◌<◌, ◌≤◌, List, length, slice_index}
use Rattle.pc_model.specs.declared.Term.{Term}
use Rattle.pc_model.specs.Codes.{IsNamedOnce}
use Rattle.pc_model.specs.Schedule.{crash_of, normal_of}
use Rattle.pc_model.specs.Walk.{from_of, to_of}
use Rattle.pc_crash.specs.Priced.{PricedNetwork}

-- a code for each of n things, none of them twice
pub record AreNames (n : ℕ) (codes : List (List ℕ)) : Type 0 where
  pub one_each : length codes ≡ n
  pub once : IsNamedOnce codes

-- one duration for each activity, from its crash to its normal one
pub record AreDurations (terms : List Term) (durations : List ℕ) : Type 0 where
  pub one_each : length durations ≡ length terms
  pub enough : (a : ℕ) → a < length terms → crash_of terms a ≤ slice_index durations a
  pub within : (a : ℕ) → a < length terms → slice_index durations a ≤ normal_of terms a

-- activity a may last so long, and it has that time between its events
pub record FitsActivity (net : PricedNetwork) (a duration : ℕ) (times : ℕ → ℕ) : Type 0 where
  pub enough : crash_of net.terms a ≤ duration
  pub within : duration ≤ normal_of net.terms a
  pub between : times (from_of net.network.arcs a) + duration ≤ times (to_of net.network.arcs a)
