-- Labels that never fall along an activity, and how they spread.
use Rattle.std.specs.Prelude.{◌≡◌, ◌≢◌, ℕ, ◌<◌, ◌≤◌, ◌⊎◌, List, length, slice_index}
use Rattle.pc_model.specs.declared.Arc.{Arc}
use Rattle.pc_model.specs.Walk.{from_of, to_of}
use Rattle.pc_model.specs.Network.{Network}
use Rattle.pc_net.specs.Degrees.{AreDistinct}

-- no activity leads to an event with a smaller label than that where it begins
abbrev pub NeverFalls : List Arc → List ℕ → Type 0
NeverFalls arcs labels =
    (a : ℕ) → a < length arcs → slice_index labels (from_of arcs a) ≤ slice_index labels (to_of arcs a)

-- event v is among those reached, at place `at` or after it
abbrev pub IsQueued : List ℕ → ℕ → ℕ → Type 0
IsQueued reached at v = (k : ℕ) × (at ≤ k) × (k < length reached) × (slice_index reached k ≡ v)

-- the events reached so far have labels, those from place `at` on the label `label`, and the only smaller label is 0,
-- which means none; the labels decrease along no activity, unless it begins at an event from place `at` on
pub record AreSpreadLabels (net : Network) (label : ℕ) (reached labels : List ℕ) (at : ℕ) : Type 0 where
  pub labels_len : length labels ≡ net.events
  pub some : 0 < label
  pub within : at ≤ length reached
  pub range : (k : ℕ) → k < length reached → slice_index reached k < net.events
  pub once : AreDistinct reached
  pub labelled : (k : ℕ) → k < length reached → label ≤ slice_index labels (slice_index reached k)
  pub last : (k : ℕ) → at ≤ k → k < length reached → slice_index labels (slice_index reached k) ≡ label
  pub least : (v : ℕ) → slice_index labels v ≢ 0 → label ≤ slice_index labels v
  pub follows : (a : ℕ) → a < length net.arcs → (slice_index labels (from_of net.arcs a) ≤ slice_index labels (to_of net.arcs a)) ⊎ IsQueued reached at (from_of net.arcs a)
