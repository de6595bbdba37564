-- What the report of event times contains.
use Rattle.std.specs.Prelude.{◌≡◌, ℕ, ◌+◌, ◌*◌, ◌/◌, ◌<◌, ℤ, pos, ◌+ℤ◌, List, [], length, slice_index, slice_index_or, Option, Some, None}
use Rattle.pc_days.specs.Calendar.{date_or_none, no_date}
use Rattle.pc_days.specs.Dates.{IsAfterSixths, IsPrintedDay, NamesDay}
use Rattle.pc_times.specs.Times.{AreEarly}
use Rattle.pc_times.specs.Late.{AreLate}
use Rattle.pc_times.specs.Picked.{IsPickedWalk}
use Rattle.pc_project.specs.Project.{Project}

-- for each event when it is reached at the earliest and when it must be at the latest, in sixths of a day from the
-- start; and the activities of the critical path
pub record Times : Type 0 where
  pub early : List ℕ
  pub late : List ℤ
  pub path : List ℕ

-- when the end is to be met, in sixths of a day: the directed number of days, or else when it is reached
abbrev pub end_to_meet : Option ℕ → ℕ → ℤ
end_to_meet None reached = pos reached
end_to_meet (Some days) reached = pos (6 * days)

-- the text of the day that is the start and this many sixths of a day, rounded up: its date, or ten hyphens if it is
-- past the days that are printed
pub data IsDate (start : ℤ) (sixths : ℕ) (text : List ℕ) : Type 0 where
  printed : (day : ℤ) → IsAfterSixths start (pos sixths) day → IsPrintedDay day → NamesDay text day → IsDate start sixths text
  past : ((day : ℤ) → IsAfterSixths start (pos sixths) day → IsPrintedDay day → ⊥) → text ≡ no_date → IsDate start sixths text

-- the day that is the start and this many sixths of a day, rounded up to complete days
abbrev pub day_after : ℤ → ℕ → ℤ
day_after start sixths = start +ℤ pos ((sixths + 5) / 6)

-- its text, as a function
unfoldable pub date_of : ℤ → ℕ → List ℕ
date_of start sixths = date_or_none (day_after start sixths)

-- one date for each time
pub record AreDates (start : ℤ) (times : List ℕ) (dates : List (List ℕ)) : Type 0 where
  pub one_each : length dates ≡ length times
  pub each : (e : ℕ) → e < length times → IsDate start (slice_index times e) (slice_index_or dates e [])

-- the times are those of the project
pub record IsTimes (project : Project) (times : Times) : Type 0 where
  pub early : AreEarly project.network project.expected times.early
  pub late : AreLate project.network project.expected (end_to_meet project.heading.directed (slice_index times.early project.network.end)) times.late
  pub path : IsPickedWalk project.network project.expected times.path
