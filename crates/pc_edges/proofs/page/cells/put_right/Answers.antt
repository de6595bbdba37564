use Rattle.pc_edges.proofs.lemmas.page.PageLaws.{◌⨾◌}
use Rattle.pc_edges.proofs.page.cells.put_right.Goals as goal

pub returns : goal.returns
returns g c = c.put_spaces.ensures ⨾ c.put.ensures
