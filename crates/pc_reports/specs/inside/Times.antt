-- What the report of event times contains.
-- Here is what no clause of a top call and no law reaches.
use Rattle.std.specs.Prelude.{◌≤◌, unsigned_abs, length}
use Rattle.std.specs.List.{All}
use Rattle.pc_model.specs.declared.limits.TheConstants.{MAX_EVENTS}
use Rattle.pc_times.specs.declared.TheConstants.{MAX_TIME}
use Rattle.pc_reports.specs.Times.{Times}

-- no time is longer than a project can take, and the path has no more activities than a project has events
pub record AreSmallTimes (times : Times) : Type 0 where
  pub early : All (λ time. time ≤ MAX_TIME) times.early
  pub late : All (λ time. unsigned_abs time ≤ MAX_TIME) times.late
  pub path : length times.path ≤ MAX_EVENTS
