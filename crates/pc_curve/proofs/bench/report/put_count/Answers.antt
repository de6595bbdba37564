use Rattle.std.proofs.Common.{ap, ◌∙◌}
use Rattle.pc_edges.specs.page.Lines.{word_line}
use Rattle.pc_edges.proofs.lemmas.page.PageLaws.{Adds-as}
use Rattle.pc_curve.proofs.bench.report.put_count.Goals as goal

pub returns : goal.returns
returns g c = Adds-as _ (ap (word_line c.args.name.now) (c.bytes.ensures ∙ c.wide.ensures.value)) c.put_line.ensures
