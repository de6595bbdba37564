use Rattle.pc_edges.specs.inside.page.Puts.{desk}
use Rattle.pc_edges.proofs.lemmas.page.PageLaws.{Adds-nil, Adds-line}
use Rattle.pc_edges.proofs.page.rows.put_rows.Goals as goal

pub loop-i-init : goal.loop-i-init
loop-i-init g c = Adds-nil (desk g.O.Sink.taken g.O.Sink.faults c.args.page.now c.args.sink.now)

pub loop-i-preserved : goal.loop-i-preserved
loop-i-preserved g c = Adds-line c.loop-i.i (g.R.Rows.row_text c.args.rows.now) c.loop-i.invariant c.put.ensures
