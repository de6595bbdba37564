-- What contracts see of a source in memory.
use Rattle.std.specs.Prelude.{◌≤◌, drop, vec_len}
use Rattle.pc_edges.specs.declared.mem_source.MemSource.TheInside.{Inside}
use Rattle.pc_edges.specs.inside.Supply.{Supply}

abbrev pub supply_of : Inside → Supply
supply_of a = record {
  left = drop a.at a.bytes.items;
  piece = a.piece;
  failing = a.pulls.failing.items;
  pulls = a.pulls.count;
  faults = a.pulls.faults;
}

pub record IsSupplied (a : Inside) : Type 0 where
  pub at : a.at ≤ vec_len a.bytes
  pub piece : 1 ≤ a.piece
