use Rattle.std.proofs.Common.{◌∙◌}
use Rattle.pc_edges.specs.page.Lines.{pair_line}
use Rattle.pc_edges.proofs.lemmas.page.PageLaws.{Adds-as}
use Rattle.pc_curve.proofs.bench.report.put_point.Goals as goal

pub returns : goal.returns
returns g c =
    Adds-as _ (λ i. pair_line c.args.name.now ((c.bytes.ensures ∙ c.digits.ensures.value) i) ((c.bytes-2.ensures ∙ c.wide.ensures.value) i)) c.put_pair.ensures
