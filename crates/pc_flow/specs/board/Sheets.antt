-- The contents of a board.
use Rattle.std.specs.Prelude.{ℕ, ◌-◌, List, slice_index, nat_lt, if◌then◌else◌}
use Rattle.pc_cells.specs.Spans.{Cells}

-- a list of numbers for each property of an event, and from `flow` on of an activity
pub record Sheet : Type 0 where
  -- how many events and activities there are, and the region as it was before the board took its cells
  pub events : ℕ
  pub activities : ℕ
  pub home : Cells
  -- the stored time of an event; its rank, 0 if it has no label; the events with a label in the order of their
  -- ranks; the activity of the step that gave a label, 1 if the step goes against it, the event from which it comes and
  -- how much more may flow there; and the events that lost their labels
  pub time : List ℕ
  pub rank : List ℕ
  pub queue : List ℕ
  pub step : List ℕ
  pub against : List ℕ
  pub near : List ℕ
  pub room : List ℕ
  pub lost : List ℕ
  -- the flow along an activity; the activities that wait for a fall; the place of one of these, counted from 1; a sum of
  -- falls before which it does not stop; and the lengths of the arcs on which the next unit of the flow and the last one run
  pub flow : List ℕ
  pub waiting : List ℕ
  pub slot : List ℕ
  pub due : List ℕ
  pub up : List ℕ
  pub down : List ℕ
  -- the sum of the falls; how many events have a label, how many of them were scanned; and how many activities wait
  pub fallen : ℕ
  pub count : ℕ
  pub head : ℕ
  pub len : ℕ

abbrev pub rank_of : Sheet → ℕ → ℕ
rank_of s e = slice_index s.rank e

abbrev pub flow_of : Sheet → ℕ → ℕ
flow_of s a = slice_index s.flow a

-- the time of an event: the stored one, less the falls if it has no label
abbrev pub kept_time : Sheet → ℕ → ℕ
kept_time s e = slice_index s.time e

abbrev pub time_of : Sheet → ℕ → ℕ
time_of s e = if nat_lt 0 (rank_of s e) then kept_time s e else kept_time s e - s.fallen
