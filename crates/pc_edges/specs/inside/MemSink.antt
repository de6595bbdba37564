-- What contracts see of a sink in memory.
use Rattle.std.specs.Prelude.{◌≤◌, vec_len, vec_capacity}
use Rattle.pc_edges.specs.declared.mem_sink.MemSink.TheInside.{Inside}
use Rattle.pc_edges.specs.inside.Intake.{Intake}

abbrev pub intake_of : Inside → Intake
intake_of a = record {
  taken = a.taken.items;
  room = a.room;
  piece = a.piece;
  failing = a.calls.failing.items;
  calls = a.calls.count;
  faults = a.calls.faults;
}

pub record HasCapacity (a : Inside) : Type 0 where
  pub within : vec_len a.taken ≤ a.room
  pub reserved : a.room ≤ vec_capacity a.taken
  pub piece : 1 ≤ a.piece
