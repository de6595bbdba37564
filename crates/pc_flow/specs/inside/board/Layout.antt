-- What the fields of a board say.
use Rattle.std.specs.Prelude.{◌≡◌, ℕ, ◌+◌, ◌^◌, ◌<◌, List, IsTrue, take, slice_index}
use Rattle.pc_cells.specs.Spans.{Cells}
use Rattle.pc_cells.specs.inside.Spans.{span_at, IsSpan, IsMark}
use Rattle.pc_flow.specs.declared.board.board.Column.{Column}
use Rattle.pc_flow.specs.declared.board.board.Board.TheInside.{Inside}
use Rattle.pc_flow.specs.board.Sheets.{Sheet}
use Rattle.pc_flow.specs.inside.board.Places.{place_of, span_of, size_of, is_small}

-- the board whose columns are the lists f 0 to f 13
abbrev pub laid_sheet : ℕ → ℕ → Cells → (ℕ → List ℕ) → ℕ → ℕ → ℕ → ℕ → Sheet
laid_sheet events activities home f fallen count head len = record {
  events = events;
  activities = activities;
  home = home;
  time = f 0;
  rank = f 1;
  queue = f 2;
  step = f 3;
  against = f 4;
  near = f 5;
  room = f 6;
  lost = f 7;
  flow = f 8;
  waiting = f 9;
  slot = f 10;
  due = f 11;
  up = f 12;
  down = f 13;
  fallen = fallen;
  count = count;
  head = head;
  len = len;
}

-- the list in the n-th span after the mark
abbrev pub list_behind : List (List ℕ) → ℕ → ℕ → List ℕ
list_behind spans from n = span_at spans (from + n)

-- the region without the spans after the mark
abbrev pub home_of : Cells → ℕ → Cells
home_of region from = record { capacity = region.capacity; spans = take from region.spans }

-- the sheet of the fields
abbrev pub sheet_of : Inside → Sheet
sheet_of b =
    laid_sheet b.columns.time.len b.columns.flow.len (home_of b.region b.mark.spans) (list_behind b.region.spans b.mark.spans)
    b.fallen b.count b.head b.len

-- the columns are the live spans after the mark, each with a number for each event or activity; few enough of them are
-- there for a u32, and so are the numbers in most columns
pub record IsBoard (b : Inside) : Type 0 where
  pub mark : IsMark b.region.spans b.mark
  pub live : (column : Column) → IsSpan b.region.spans (b.mark.spans + place_of column) (span_of b.columns column)
  pub size : (column : Column) → (span_of b.columns column).len ≡ size_of b.columns.time.len b.columns.flow.len column
  pub few_events : b.columns.time.len < 2 ^ 32
  pub few_activities : b.columns.flow.len < 2 ^ 32
  pub small : (column : Column) → IsTrue (is_small column) → (i : ℕ) → slice_index (list_behind b.region.spans b.mark.spans (place_of column)) i < 2 ^ 32
