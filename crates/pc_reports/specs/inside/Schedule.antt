-- The text of a schedule.
-- Here is what no clause of a top call and no law reaches.
use Rattle.std.specs.Prelude.{◌≡◌, ℕ, List, length}
use Rattle.pc_reports.specs.declared.schedule.Schedule.{Schedule}
use Rattle.pc_reports.specs.Schedule.{plan_text, schedule_text}

-- the text of a schedule that is handed on to be printed
abbrev pub schedule_text_of : Schedule → List ℕ
schedule_text_of s = schedule_text s.length s.cost s.events.now s.times.now s.activities.now s.durations.now

-- only the lines of its events and activities
abbrev pub plan_text_of : Schedule → List ℕ
plan_text_of s = plan_text s.events.now s.times.now s.activities.now s.durations.now

-- there is a time for each event and a duration for each activity
pub record IsWholeSchedule (s : Schedule) : Type 0 where
  pub timed : length s.events.now ≡ length s.times.now
  pub lasting : length s.activities.now ≡ length s.durations.now
