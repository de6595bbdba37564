-- What the parts of forecasts hold.
use Rattle.std.specs.Prelude.{◌<◌, ◌≤◌, ◌^◌, unsigned_abs}
use Rattle.std.specs.List.{All}
use Rattle.pc_times.specs.declared.TheConstants.{MAX_TIME}
use Rattle.pc_reports.specs.declared.forecasts.Forecasts.TheInside.{Inside}
use Rattle.pc_reports.specs.Earned.{Forecasts}

abbrev pub forecasts_from : Inside → Forecasts
forecasts_from a = record { times = a.times.items; late = a.late.items; dates = a.dates.items; slacks = a.slacks.items }

-- no time is longer than a forecast can take
pub record AreSoonInside (a : Inside) : Type 0 where
  pub times : All (λ time. time < 2 ^ 40) a.times.items
  pub late : All (λ time. unsigned_abs time ≤ MAX_TIME) a.late.items
