use Rattle.std.proofs.Common.{arith}
use Rattle.pc_edges.specs.inside.page.Cells.{cell_text, filled}
use Rattle.pc_edges.proofs.lemmas.page.PageLaws.{◌⨾◌, Adds-as}
use Rattle.pc_edges.proofs.lemmas.page.RowLaws.{row-next, row-whole}
use Rattle.pc_edges.proofs.page.cells.put_row.Goals as goal

pub loop-i-preserved : goal.loop-i-preserved
loop-i-preserved g c =
    Adds-as _ (row-next filled cell_text c.args.columns.now c.args.cells.now c.loop-i.i _ _ c.loop-i-test.true c.requires)
    (c.loop-i.invariant ⨾ (c.put_gap.ensures ⨾ c.put_cell.ensures))

pub returns : goal.returns
returns g c =
    Adds-as _ (row-whole filled cell_text c.args.columns.now c.args.cells.now c.loop-i.i (omega (arith, c.loop-i-test.false)) c.requires)
    (c.loop-i.invariant ⨾ c.put.ensures)
