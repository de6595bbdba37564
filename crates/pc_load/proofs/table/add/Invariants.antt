use Rattle.std.proofs.Common.{◌≡◌, ◌*◌}
use Rattle.pc_load.specs.Share.{share}
use Rattle.pc_load.proofs.AddLaws.{IsAddedTo}
use Rattle.pc_load.proofs.table.add.Given as goal

abbrev pub invariant-loop-k : goal.invariant-loop-k
invariant-loop-k l = record {
  cells : IsAddedTo l.rows l.periods l.entry l.width l.k l.fn.cells l.cells;
  so_far : l.so_far ≡ share l.entry.spread (l.width * l.k);
}
