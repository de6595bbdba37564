use Rattle.pc_edges.proofs.lemmas.page.PageLaws.{◌▸◌}
use Rattle.pc_edges.proofs.page.lines.put_line.Goals as goal

pub returns : goal.returns
returns g c = c.put.ensures ▸ c.put-2.ensures ▸ c.put-3.ensures
