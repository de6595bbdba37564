-- What contracts see of a reader of lines, by what it keeps.
use Rattle.std.specs.Prelude.{◌≡◌, ◌+◌, ◌-◌, ◌≤◌, length, take, drop}
use Rattle.pc_edges.specs.declared.loading.TheConstants.{STREAM_ROOM}
use Rattle.pc_edges.specs.declared.lines.reader.LineReader.TheInside.{Inside}
use Rattle.pc_edges.specs.declared.lines.reader.TheConstants.{INPUT_LIMIT, LINE_ROOM}
use Rattle.pc_edges.specs.inside.lines.Reading.{Reading}

abbrev pub reading_of : Inside → Reading
reading_of a = record {
  line = take a.held a.cells;
  ahead = take (a.to - a.from) (drop a.from a.buffer.items);
  taken = a.taken;
}

pub record IsWithinRoom (a : Inside) : Type 0 where
  pub cells : length a.cells ≡ LINE_ROOM
  pub held : a.held ≤ LINE_ROOM
  pub room : length a.buffer.items ≡ STREAM_ROOM
  pub from : a.from ≤ a.to
  pub to : a.to ≤ STREAM_ROOM
  pub taken : a.taken ≤ INPUT_LIMIT + STREAM_ROOM
