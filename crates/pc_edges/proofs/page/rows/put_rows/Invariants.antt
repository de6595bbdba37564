use Rattle.pc_edges.specs.Texts.{texts_to}
use Rattle.pc_edges.specs.inside.page.Puts.{Puts}
use Rattle.pc_edges.proofs.page.rows.put_rows.Given as goal

abbrev pub invariant-loop-i : goal.invariant-loop-i
invariant-loop-i g l = Puts g.O.Sink.taken g.O.Sink.faults l.fn.page l.fn.sink l.page l.sink (texts_to l.i (g.R.Rows.row_text l.rows))
