-- What the pass over the events needs of their times.
use Rattle.std.specs.Prelude.{◌≡◌, ℕ, ◌<◌, ◌≤◌, List, length, slice_index}
use Rattle.pc_model.specs.declared.Term.{Term}
use Rattle.pc_model.specs.declared.limits.TheConstants.{MAX_DURATION}
use Rattle.pc_model.specs.Walk.{from_of, to_of}
use Rattle.pc_model.specs.Network.{Network, IsInRange, IsSound, IsEarly}
use Rattle.pc_model.specs.Schedule.{crashes, normals}
use Rattle.pc_flow.specs.declared.early.Pace.{Pace}
use Rattle.pc_flow.specs.declared.early.Pace.TheVariants.{Crash, Normal}
use Rattle.pc_flow.specs.declared.early.TheConstants.{MAX_LENGTH}

-- the durations of the activities
abbrev pub durations_at : List Term → Pace → List ℕ
durations_at terms Crash = crashes terms
durations_at terms Normal = normals terms

-- the network is sound, no length is above the greatest duration, and no greatest sum of them above the greatest length
-- of a project
pub record HasSmallTimes (net : Network) (lengths : List ℕ) : Type 0 where
  pub range : IsInRange net
  pub sound : IsSound net
  pub short : (a : ℕ) → a < length net.arcs → slice_index lengths a ≤ MAX_DURATION
  pub fits : (e n : ℕ) → e < net.events → IsEarly net lengths e n → n ≤ MAX_LENGTH

-- the times of the events where the activities that enter event e begin are the greatest sums to them
pub record HasEarlyPredecessors (net : Network) (lengths : List ℕ) (times : ℕ → ℕ) (e : ℕ) : Type 0 where
  pub known : e < net.events
  pub each : (a : ℕ) → a < length net.arcs → to_of net.arcs a ≡ e → IsEarly net lengths (from_of net.arcs a) (times (from_of net.arcs a))
