use Rattle.std.proofs.Common.{ap}
use Rattle.pc_edges.proofs.lemmas.page.PageLaws.{◌⨾◌, Adds-as}
use Rattle.pc_reports.specs.OutlookText.{outlook_text}
use Rattle.pc_reports.proofs.outlook_report.OutlookReport.put.Goals as goal

pub returns : goal.returns
unfolding outlook_text
returns g c = Adds-as _ (ap (outlook_text c.args.project.now) c.self.view_is) (c.put_head.ensures ⨾ c.put_rows.ensures)
