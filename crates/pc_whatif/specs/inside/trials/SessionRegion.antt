-- What a session keeps: the times of its project, in the spans of one region.
use Rattle.std.specs.Prelude.{◌≡◌, ℕ, List, length, take, slice_set}
use Rattle.pc_model.specs.Network.{Network}
use Rattle.pc_times.specs.Estimates.{expected_time, variance_of}
use Rattle.pc_times.specs.Picked.{IsPickedWalk}
use Rattle.pc_times.specs.Times.{AreEarly}
use Rattle.pc_times.specs.inside.Times.{AreTails}
use Rattle.pc_project.specs.declared.activity.Estimates.{Estimates}
use Rattle.pc_project.specs.Project.{Project}

-- a list for each span that was taken at the opening: for each activity its expected time, in sixths of a day, and the variance
-- of it, in thirty-sixths of a square day; for each event its earliest time and the greatest sum of expected times over the
-- walks from it to the end; and as many cells for the path as there are events, the first `path_len` of them with the activities of the
-- critical path. And how many cells of the region are in none of its spans
pub record SessionRegion : Type 0 where
  pub expected : List ℕ
  pub variances : List ℕ
  pub early : List ℕ
  pub tails : List ℕ
  pub path_cells : List ℕ
  pub path_len : ℕ
  pub free : ℕ

-- the activities of the critical path
abbrev pub path_in : SessionRegion → List ℕ
path_in r = take r.path_len r.path_cells

-- there is a place for each activity and event of the network
pub record IsRegionFor (net : Network) (r : SessionRegion) : Type 0 where
  pub expected : length r.expected ≡ length net.arcs
  pub variances : length r.variances ≡ length net.arcs
  pub early : length r.early ≡ net.events
  pub tails : length r.tails ≡ net.events
  pub path_cells : length r.path_cells ≡ net.events

-- the times are those for the expected times that are stored with them
pub record IsStanding (net : Network) (r : SessionRegion) : Type 0 where
  pub early : AreEarly net r.expected r.early
  pub tails : AreTails net r.expected r.tails
  pub path : IsPickedWalk net r.expected (path_in r)

-- the same, and they are those of a project
pub record IsStandingOf (project : Project) (r : SessionRegion) : Type 0 where
  pub expected : r.expected ≡ project.expected
  pub variances : r.variances ≡ project.variances
  pub standing : IsStanding project.network r

-- the expected time that estimates give if a unit has this many days, and its variance
abbrev pub expected_by : ℕ → Estimates → ℕ
expected_by unit_days e = expected_time e.optimistic e.likely e.pessimistic unit_days

abbrev pub variance_by : ℕ → Estimates → ℕ
variance_by unit_days e = variance_of e.optimistic e.pessimistic unit_days

-- one activity has other estimates; the times stay as they are
abbrev pub with_estimates : SessionRegion → ℕ → Estimates → ℕ → SessionRegion
with_estimates r a e unit_days = record r {
  expected = slice_set r.expected a (expected_by unit_days e);
  variances = slice_set r.variances a (variance_by unit_days e);
}

-- the times, and the path, are others
abbrev pub with_times : SessionRegion → List ℕ → List ℕ → List ℕ → ℕ → SessionRegion
with_times r early tails path_cells path_len = record r { early = early; tails = tails; path_cells = path_cells; path_len = path_len }

-- the second project has the name and the network of the first, and its expected times and variances are those in the
-- region
pub record IsChangedTo (project : Project) (r : SessionRegion) (changed : Project) : Type 0 where
  pub heading : changed.heading ≡ project.heading
  pub network : changed.network ≡ project.network
  pub events : changed.events ≡ project.events
  pub activities : changed.activities ≡ project.activities
  pub expected : changed.expected ≡ r.expected
  pub variances : changed.variances ≡ r.variances
