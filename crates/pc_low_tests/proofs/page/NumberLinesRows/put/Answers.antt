use Rattle.pc_edges.proofs.lemmas.page.PageLaws.{◌⨾◌}
use Rattle.pc_low_tests.proofs.page.NumberLinesRows.put.Goals as goal

pub returns : goal.returns
returns g c = c.put_number.ensures ⨾ c.put.ensures
