-- A schedule for a length, read from a solver.
-- Here is what no clause of a top call and no law reaches.
use Rattle.std.specs.Prelude.{◌≡◌, ℕ, ◌<◌, ◌≤◌, true, List, length, slice_index}
use Rattle.pc_laws.specs.Segment.{Segment, Holds, times_for, durations_for}
use Rattle.pc_crash.specs.Priced.{PricedNetwork}
use Rattle.pc_flow.specs.Courses.{Course, upper_of}
use Rattle.pc_flow.specs.inside.Courses.{present, IsOnCurve}

-- a solver can reach the length: it is in the range, and not above the present segment
pub record IsToCome (c : Course) (limit : ℕ) : Type 0 where
  pub above : c.shortest ≤ limit
  pub within : limit ≤ c.longest
  pub below : c.given ≡ true → limit ≤ upper_of c

-- the solver has a complete segment, and it holds the length
pub record IsThere (c : Course) (limit : ℕ) : Type 0 where
  pub given : c.given ≡ true
  pub whole : IsOnCurve c
  pub holds : Holds (present c) limit

-- one number for each event and each activity of a network
pub record HasPlaces (net : PricedNetwork) (times durations : List ℕ) : Type 0 where
  pub events : length times ≡ net.network.events
  pub activities : length durations ≡ length net.network.arcs

-- the times are those that are read from a segment for a length
abbrev pub AreTimesRead : PricedNetwork → Segment → ℕ → List ℕ → Type 0
AreTimesRead net seg limit times = (e : ℕ) → e < net.network.events → slice_index times e ≡ times_for seg limit e

-- so are the durations
abbrev pub AreDurationsRead : PricedNetwork → Segment → ℕ → List ℕ → Type 0
AreDurationsRead net seg limit durations =
    (a : ℕ) → a < length net.network.arcs → slice_index durations a ≡ durations_for net.network net.terms seg limit a
