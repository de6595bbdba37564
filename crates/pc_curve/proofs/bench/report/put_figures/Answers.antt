use Rattle.pc_edges.proofs.lemmas.page.PageLaws.{◌▸◌}
use Rattle.pc_curve.proofs.bench.report.put_figures.Goals as goal

pub returns : goal.returns
returns g c = c.put_count.ensures ▸ c.put_point.ensures ▸ c.put_point-2.ensures ▸ c.put_count-2.ensures ▸ c.put_count-3.ensures
