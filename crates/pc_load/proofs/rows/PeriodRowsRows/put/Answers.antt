use Rattle.std.proofs.Common.{ap}
use Rattle.pc_edges.proofs.lemmas.page.PageLaws.{Adds-as}
use Rattle.pc_load.specs.LoadText.{period_cells, period_row}
use Rattle.pc_load.proofs.rows.PeriodRowsRows.put.Goals as goal

pub returns : goal.returns
returns g c =
    let t = c.args.self.now in
    Adds-as (period_row t.project.now t.printed.now.days c.args.i)
    (ap (period_cells c.args.i) (rw c.start_day.ensures at c.date_after-date.ensures)) c.put_period.ensures
