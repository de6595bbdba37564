-- The text of the report of event times.
use Rattle.std.specs.Prelude.{◌≡◌, ℕ, ℤ, pos, ◌-ℤ◌, List, [], ◌∷◌, ◌++◌, length, slice_index, slice_index_or, codes, decimal}
use Rattle.std.specs.Fmt.{signed_decimal}
use Rattle.pc_edges.specs.Texts.{texts_to}
use Rattle.pc_model.specs.Walk.{from_of, to_of, walk_sum}
use Rattle.pc_project.specs.Project.{Project}
use Rattle.pc_edges.specs.page.Cells.{left, right, row, cells_in, head_row}
use Rattle.pc_edges.specs.page.Lines.{word_line, number_line}
use Rattle.pc_reports.specs.Times.{Times, IsTimes, date_of}

-- the columns of the events: the word above each, and at which side of which width its texts are
abbrev pub event_layout : List (List ℕ × (List ℕ → List ℕ))
event_layout =
    (codes "EVENT", left 16) ∷ (codes "TE", right 12) ∷ (codes "TL", right 12) ∷ (codes "SLACK", right 12) ∷ (codes "DATE", λ text. text) ∷ []

-- the row of an event: its code, its earliest and its latest time, the difference, and the date
abbrev pub event_cells : List ℕ → ℕ → ℤ → List ℕ → List ℕ
event_cells code early late date =
    row (cells_in event_layout (code ∷ decimal early ∷ signed_decimal late ∷ signed_decimal (late -ℤ pos early) ∷ date ∷ []))

-- the row of event e
abbrev pub event_row : Project → Times → ℕ → List ℕ
event_row project times e =
    event_cells (slice_index_or project.events e []) (slice_index times.early e) (slice_index_or times.late e (pos 0)) (date_of project.heading.start_day (slice_index times.early e))

-- the columns of the activities: the word above each, and at which side of which width its texts are
abbrev pub activity_layout : List (List ℕ × (List ℕ → List ℕ))
activity_layout = (codes "ACTIVITY", left 16) ∷ (codes "EXPECTED", right 12) ∷ (codes "VARIANCE", right 16) ∷ (codes "SLACK", right 12) ∷ []

-- the row of an activity: its code, its expected time, the variance of that, and its slack
abbrev pub activity_cells : List ℕ → ℕ → ℕ → ℤ → List ℕ
activity_cells code expected variance slack =
    row (cells_in activity_layout (code ∷ decimal expected ∷ decimal variance ∷ signed_decimal slack ∷ []))

-- how long activity a can wait: the time from the earliest of the event where it begins to the latest of the event
-- where it ends, less its expected time
abbrev pub activity_slack : Project → Times → ℕ → ℤ
activity_slack project times a =
    (slice_index_or times.late (to_of project.network.arcs a) (pos 0) -ℤ pos (slice_index times.early (from_of project.network.arcs a)))
    -ℤ pos (slice_index project.expected a)

-- the row of activity a
abbrev pub activity_row : Project → Times → ℕ → List ℕ
activity_row project times a =
    activity_cells (slice_index_or project.activities a []) (slice_index project.expected a) (slice_index project.variances a) (activity_slack project times a)

-- the line of the i-th activity of the critical path
abbrev pub critical_row : Project → Times → ℕ → List ℕ
critical_row project times i =
    word_line (codes "CRITICAL ") (slice_index_or project.activities (slice_index times.path i) [])

-- a row for each event, in card order
abbrev pub event_table : Project → Times → List ℕ
event_table project times = head_row event_layout ++ texts_to (length project.events) (event_row project times)

-- a row for each activity, in card order
abbrev pub activity_table : Project → Times → List ℕ
activity_table project times = head_row activity_layout ++ texts_to (length project.activities) (activity_row project times)

-- a line for each activity of the critical path, from the start to the end, and the sum of their variances
abbrev pub critical_text : Project → Times → List ℕ
critical_text project times =
    texts_to (length times.path) (critical_row project times) ++ number_line (codes "VARIANCE ") (walk_sum project.variances times.path)

-- the project's code, the events, the activities, and the critical path
unfoldable pub times_text : Project → Times → List ℕ
times_text project times =
    word_line (codes "TIMES ") project.heading.code
    ++ event_table project times
    ++ activity_table project times
    ++ critical_text project times

-- the text is the report of the project's event times
pub record IsTimesText (project : Project) (text : List ℕ) : Type 0 where
  pub times : Times
  pub are : IsTimes project times
  pub told : text ≡ times_text project times
