-- The contents of a board.
-- Here is what no clause of a top call and no law reaches.
use Rattle.std.specs.Prelude.{ℕ, replicate, slice_index}
use Rattle.pc_cells.specs.Spans.{Cells}
use Rattle.pc_flow.specs.board.Sheets.{Sheet}

abbrev pub queue_of : Sheet → ℕ → ℕ
queue_of s k = slice_index s.queue k

abbrev pub step_of : Sheet → ℕ → ℕ
step_of s e = slice_index s.step e

abbrev pub against_of : Sheet → ℕ → ℕ
against_of s e = slice_index s.against e

abbrev pub near_of : Sheet → ℕ → ℕ
near_of s e = slice_index s.near e

abbrev pub room_of : Sheet → ℕ → ℕ
room_of s e = slice_index s.room e

abbrev pub lost_of : Sheet → ℕ → ℕ
lost_of s k = slice_index s.lost k

abbrev pub waiting_of : Sheet → ℕ → ℕ
waiting_of s k = slice_index s.waiting k

abbrev pub slot_of : Sheet → ℕ → ℕ
slot_of s a = slice_index s.slot a

abbrev pub due_of : Sheet → ℕ → ℕ
due_of s a = slice_index s.due a

abbrev pub up_of : Sheet → ℕ → ℕ
up_of s a = slice_index s.up a

abbrev pub down_of : Sheet → ℕ → ℕ
down_of s a = slice_index s.down a

-- a board with 0 at each place
abbrev pub clear_sheet : Cells → ℕ → ℕ → Sheet
clear_sheet home events activities = record {
  events = events;
  activities = activities;
  home = home;
  time = replicate events 0;
  rank = replicate events 0;
  queue = replicate events 0;
  step = replicate events 0;
  against = replicate events 0;
  near = replicate events 0;
  room = replicate events 0;
  lost = replicate events 0;
  flow = replicate activities 0;
  waiting = replicate activities 0;
  slot = replicate activities 0;
  due = replicate activities 0;
  up = replicate activities 0;
  down = replicate activities 0;
  fallen = 0;
  count = 0;
  head = 0;
  len = 0;
}
