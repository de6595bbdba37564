-- What the report of the value of work contains.
use Rattle.std.specs.Prelude.{◌≡◌, ℕ, ℤ, List, slice_index, Option}
use Rattle.pc_accounts.specs.status.Statuses.{IsSixths}
use Rattle.pc_times.specs.Forecast.{Expected, IsForecast}
use Rattle.pc_times.specs.Late.{AreLate}
use Rattle.pc_times.specs.Times.{AreEarly}
use Rattle.pc_project.specs.Project.{Project}
use Rattle.pc_rollup.specs.declared.figures.outline.OutlineRow.{OutlineRow}
use Rattle.pc_rollup.specs.figures.Outline.{IsOutline}
use Rattle.pc_rollup.specs.figures.Slacks.{AreLeastSlacks, slack_at}
use Rattle.pc_reports.specs.Times.{AreDates, end_to_meet}
use Rattle.pc_rollup.specs.figures.Worth.{Worth, IsWorthOf}

-- for each event when it is expected and when it must occur at the latest, in sixths of a day from the start, and the
-- date on which it is expected; and for each item the least forecast slack of the activities on it or below it
pub record Forecasts : Type 0 where
  pub times : List ℕ
  pub late : List ℤ
  pub dates : List (List ℕ)
  pub slacks : List (Option ℤ)

-- the latest times at which the end can be met
abbrev pub AreLateFor : Project → List ℤ → Type 0
AreLateFor project late =
    (early : List ℕ) × (AreEarly project.network project.expected early
    × AreLate project.network project.expected (end_to_meet project.heading.directed (slice_index early project.network.end)) late)

-- the forecasts are those of the project: they solve the equations of a forecast, which have one solution
pub record AreForecasts (project : Project) (forecasts : Forecasts) : Type 0 where
  pub as_of : ℕ
  pub as_of_is : IsSixths project.heading.start_day project.heading.as_of as_of
  pub expected : Expected
  pub forecast : IsForecast project.network project.expected project.states as_of expected
  pub times : forecasts.times ≡ expected.times
  pub late : AreLateFor project forecasts.late
  pub dates : AreDates project.heading.start_day forecasts.times forecasts.dates
  pub slacks : AreLeastSlacks project.tree project.places (slack_at project.network forecasts.late expected.finishes) forecasts.slacks

-- the forecasts, and the items in preorder with what their work is worth
pub record Earned : Type 0 where
  pub forecasts : Forecasts
  pub outline : List OutlineRow
  pub worth : Worth

-- the report's contents are the project's
pub record IsEarned (project : Project) (earned : Earned) : Type 0 where
  pub forecasts : AreForecasts project earned.forecasts
  pub outline : IsOutline project.tree earned.outline
  pub worth : IsWorthOf project.tree project.places project.states project.accounts project.entries earned.worth
