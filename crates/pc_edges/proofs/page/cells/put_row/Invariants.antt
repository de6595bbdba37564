use Rattle.std.proofs.Common.{take}
use Rattle.std.specs.Prelude.{map}
use Rattle.pc_edges.specs.inside.page.Cells.{cell_text, filled, filled_by}
use Rattle.pc_edges.specs.inside.page.Puts.{Puts}
use Rattle.pc_edges.proofs.lemmas.page.RowLaws.{joined}
use Rattle.pc_edges.proofs.page.cells.put_row.Given as goal

abbrev pub invariant-loop-i : goal.invariant-loop-i
invariant-loop-i g l =
    Puts g.O.Sink.taken g.O.Sink.faults l.fn.page l.fn.sink l.page l.sink (joined (take l.i (filled_by (map filled l.columns) (map cell_text l.cells))))
