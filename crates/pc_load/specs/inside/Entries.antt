-- What a project spreads: the costs of its activities on their items, and its loads on their resources.
use Rattle.std.specs.Prelude.{◌≡◌, ℕ, ◌<◌, ◌≤◌, List, length, slice_index}
use Rattle.pc_project.specs.Project.{Project}
use Rattle.pc_times.specs.Times.{AreEarly}
use Rattle.pc_times.specs.declared.TheConstants.{MAX_TIME}
use Rattle.pc_load.specs.declared.table.LoadRow.{LoadRow}
use Rattle.pc_load.specs.Loading.{normal_cost_at, load_at, spread_at}
use Rattle.pc_load.specs.inside.Table.{load_entry_at}

-- the earliest times of the project's events
pub record AreEarliestTimes (project : Project) (times : List ℕ) : Type 0 where
  pub early : AreEarly project.network project.expected times
  pub small : (e : ℕ) → e < length times → slice_index times e ≤ MAX_TIME

-- the costs of the first n activities, each on its item
pub record AreCosts (project : Project) (times : List ℕ) (n : ℕ) (entries : List LoadRow) : Type 0 where
  pub one_each : length entries ≡ n
  pub each : (a : ℕ) → a < n → load_entry_at entries a ≡ record { row = slice_index project.places a; spread = spread_at project times a (normal_cost_at project a) }

-- the quantities of the first n loads, each on its resource
pub record AreLoads (project : Project) (times : List ℕ) (n : ℕ) (entries : List LoadRow) : Type 0 where
  pub one_each : length entries ≡ n
  pub each : (l : ℕ) → l < n → load_entry_at entries l ≡ record { row = (load_at project l).resource; spread = spread_at project times (load_at project l).activity (load_at project l).quantity }
