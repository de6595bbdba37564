-- The columns of a board, by name.
use Rattle.std.specs.Prelude.{◌≡◌, ◌≢◌, ℕ, Bool, not, nat_lt, ◌==◌, ◌&&◌, if◌then◌else◌, List, slice_index}
use Rattle.pc_cells.specs.declared.region.Span.{Span}
use Rattle.pc_flow.specs.declared.board.board.Column.{Column}
use Rattle.pc_flow.specs.declared.board.board.Column.TheVariants.{Time, Rank, Queue, Step, Against, Near, Room, Lost, Flow, Waiting, Slot, Due, Up, Down}
use Rattle.pc_flow.specs.declared.board.board.Columns.{Columns}
use Rattle.pc_flow.specs.board.Sheets.{Sheet}

-- how many columns were taken before this one
abbrev pub place_of : Column → ℕ
place_of Time = 0
place_of Rank = 1
place_of Queue = 2
place_of Step = 3
place_of Against = 4
place_of Near = 5
place_of Room = 6
place_of Lost = 7
place_of Flow = 8
place_of Waiting = 9
place_of Slot = 10
place_of Due = 11
place_of Up = 12
place_of Down = 13

-- the span of a column
abbrev pub span_of : Columns → Column → Span
span_of columns Time = columns.time
span_of columns Rank = columns.rank
span_of columns Queue = columns.queue
span_of columns Step = columns.step
span_of columns Against = columns.against
span_of columns Near = columns.near
span_of columns Room = columns.room
span_of columns Lost = columns.lost
span_of columns Flow = columns.flow
span_of columns Waiting = columns.waiting
span_of columns Slot = columns.slot
span_of columns Due = columns.due
span_of columns Up = columns.up
span_of columns Down = columns.down

-- what a column holds
abbrev pub column_of : Sheet → Column → List ℕ
column_of s Time = s.time
column_of s Rank = s.rank
column_of s Queue = s.queue
column_of s Step = s.step
column_of s Against = s.against
column_of s Near = s.near
column_of s Room = s.room
column_of s Lost = s.lost
column_of s Flow = s.flow
column_of s Waiting = s.waiting
column_of s Slot = s.slot
column_of s Due = s.due
column_of s Up = s.up
column_of s Down = s.down

-- the sheet with these numbers in a column
abbrev pub with_column : Sheet → Column → List ℕ → Sheet
with_column s Time xs = record s { time = xs }
with_column s Rank xs = record s { rank = xs }
with_column s Queue xs = record s { queue = xs }
with_column s Step xs = record s { step = xs }
with_column s Against xs = record s { against = xs }
with_column s Near xs = record s { near = xs }
with_column s Room xs = record s { room = xs }
with_column s Lost xs = record s { lost = xs }
with_column s Flow xs = record s { flow = xs }
with_column s Waiting xs = record s { waiting = xs }
with_column s Slot xs = record s { slot = xs }
with_column s Due xs = record s { due = xs }
with_column s Up xs = record s { up = xs }
with_column s Down xs = record s { down = xs }

-- how many numbers a column has
abbrev pub size_of : ℕ → ℕ → Column → ℕ
size_of events activities column = if nat_lt (place_of column) 8 then events else activities

-- whether the column at a place has numbers of events or activities, or of places: all but those of times, rooms, flows,
-- falls and lengths
abbrev pub small_at : ℕ → Bool
small_at n = not (n == 0) && (not (n == 6) && (not (n == 8) && nat_lt n 11))

abbrev pub is_small : Column → Bool
is_small column = small_at (place_of column)

-- one number of a column was set, and all else is as it was
pub record IsSetAt (old new : Sheet) (column : Column) (i v : ℕ) : Type 0 where
  pub rest : new ≡ with_column old column (column_of new column)
  pub at : slice_index (column_of new column) i ≡ v
  pub off : (k : ℕ) → k ≢ i → slice_index (column_of new column) k ≡ slice_index (column_of old column) k
