use Rattle.pc_edges.proofs.lemmas.page.PageLaws.{◌⨾◌}
use Rattle.pc_reports.proofs.schedule.put_schedule.Goals as goal

pub returns : goal.returns
returns g c = c.put_number.ensures ⨾ c.put_number-2.ensures ⨾ c.put_plan.ensures
