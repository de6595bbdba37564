use Rattle.std.proofs.Common.{refl}
use Rattle.pc_edges.proofs.lemmas.page.PageLaws.{Adds-as}
use Rattle.pc_reports.specs.SummaryText.{level_row}
use Rattle.pc_reports.proofs.summary_rows.LevelRowsRows.put.Goals as goal

pub returns : goal.returns
returns g c = Adds-as (level_row c.args.self.now.summary.now c.args.i) (rw c.of_level-amounts.ensures.amounts refl) c.put_level.ensures
