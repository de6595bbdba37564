-- What the report of the value of work contains.
-- Here is what no clause of a top call and no law reaches.
use Rattle.std.specs.Prelude.{ℕ, ◌<◌, ◌^◌}
use Rattle.pc_accounts.specs.status.Statuses.{IsSixths}
use Rattle.pc_times.specs.Forecast.{Expected, IsForecast}
use Rattle.pc_project.specs.Project.{Project}

-- when the project's events are expected and its activities are to be finished, as of the day of its figures
pub record IsForecastOf (project : Project) (expected : Expected) : Type 0 where
  pub as_of : ℕ
  pub as_of_is : IsSixths project.heading.start_day project.heading.as_of as_of
  pub small : as_of < 2 ^ 25
  pub forecast : IsForecast project.network project.expected project.states as_of expected
