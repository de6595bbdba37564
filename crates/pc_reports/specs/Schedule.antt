-- The text of a schedule.
use Rattle.std.specs.Prelude.{ℕ, List, ◌++◌, length, codes}
use Rattle.pc_edges.specs.Texts.{texts_to}
use Rattle.pc_edges.specs.page.Lines.{number_line}
use Rattle.pc_reports.specs.Lines.{named_line_at}

-- the time of each event, and the duration of each activity, a line each
abbrev pub plan_text : List (List ℕ) → List ℕ → List (List ℕ) → List ℕ → List ℕ
plan_text events times activities durations =
    texts_to (length events) (named_line_at (codes "EVENT ") events times)
    ++ texts_to (length activities) (named_line_at (codes "ACT ") activities durations)

-- the length and the cost, a line each, and these lines
abbrev pub schedule_text : ℕ → ℕ → List (List ℕ) → List ℕ → List (List ℕ) → List ℕ → List ℕ
schedule_text total cost events times activities durations =
    number_line (codes "LENGTH ") total ++ number_line (codes "COST ") cost ++ plan_text events times activities durations
