use Rattle.pc_edges.proofs.lemmas.page.PageLaws.{◌▸◌}
use Rattle.pc_curve.proofs.curve_text.put_break.Goals as goal

pub returns : goal.returns
returns g c = c.put_number.ensures ▸ c.put.ensures ▸ c.put_number-2.ensures ▸ c.put-2.ensures ▸ c.put_slope.ensures ▸ c.put-3.ensures
