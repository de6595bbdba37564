use Rattle.pc_edges.proofs.lemmas.page.PageLaws.{◌⨾◌}
use Rattle.pc_reports.proofs.schedule.put_plan.Goals as goal

pub returns : goal.returns
returns g c = c.put_rows.ensures ⨾ c.put_rows-2.ensures
