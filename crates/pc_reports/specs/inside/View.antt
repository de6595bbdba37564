-- What the report of event times is written from, wherever it is stored.
use Rattle.std.specs.Prelude.{◌≡◌, ℕ, ◌^◌, ◌<◌, ◌≤◌, pos, unsigned_abs, List, length, slice_index, slice_index_or}
use Rattle.pc_model.specs.declared.limits.TheConstants.{MAX_EVENTS, MAX_VARIANCE}
use Rattle.pc_times.specs.declared.TheConstants.{MAX_ACTIVITY_LENGTH}
use Rattle.pc_project.specs.Project.{Project}
use Rattle.pc_reports.specs.Times.{Times}

-- for each activity its expected time, in sixths of a day, and the variance of it, in thirty-sixths of a square day; and
-- the times of the events and the critical path
pub record Shown : Type 0 where
  pub expected : List ℕ
  pub variances : List ℕ
  pub times : Times

-- the project with the expected times and variances that are shown
abbrev pub as_shown : Project → Shown → Project
as_shown project shown = record project { expected = shown.expected; variances = shown.variances }

-- there is a number for each activity and a time for each event of the project, none too great; and the path has
-- activities of the project, no more than a project may have events
pub record IsShownOf (project : Project) (shown : Shown) : Type 0 where
  pub expected_each : length shown.expected ≡ length project.network.arcs
  pub variance_each : length shown.variances ≡ length project.network.arcs
  pub early_each : length shown.times.early ≡ project.network.events
  pub late_each : length shown.times.late ≡ project.network.events
  pub expected : (a : ℕ) → a < length project.network.arcs → slice_index shown.expected a ≤ MAX_ACTIVITY_LENGTH
  pub variances : (a : ℕ) → a < length project.network.arcs → slice_index shown.variances a ≤ MAX_VARIANCE
  pub early : (e : ℕ) → e < project.network.events → slice_index shown.times.early e < 2 ^ 40
  pub late : (e : ℕ) → e < project.network.events → unsigned_abs (slice_index_or shown.times.late e (pos 0)) < 2 ^ 40
  pub known : (k : ℕ) → k < length shown.times.path → slice_index shown.times.path k < length project.network.arcs
  pub few : length shown.times.path ≤ MAX_EVENTS
