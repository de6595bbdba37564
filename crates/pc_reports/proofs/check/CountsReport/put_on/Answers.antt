use Rattle.std.proofs.Common.{codes, ap, refl}
use Rattle.pc_edges.proofs.lemmas.page.PageLaws.{◌⨾◌, Adds-as}
use Rattle.pc_edges.specs.page.Lines.{word_line}
use Rattle.pc_reports.specs.Check.{counts_text}
use Rattle.pc_reports.proofs.check.CountsReport.put_on.Goals as goal

pub returns : goal.returns
returns g c =
    (_, refl, Adds-as _ (ap (word_line (codes "accepted ")) c.code.ensures) c.put_code.ensures ⨾ Adds-as _ (ap counts_text c.requires) c.put_counts.ensures)
