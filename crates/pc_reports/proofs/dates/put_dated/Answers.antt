use Rattle.pc_edges.specs.page.Lines.{pair_line}
use Rattle.pc_edges.proofs.lemmas.page.PageLaws.{Adds-as}
use Rattle.pc_reports.proofs.dates.put_dated.Goals as goal

pub returns : goal.returns
returns g c = Adds-as _ (λ i. pair_line c.args.word.now (c.bytes.ensures.value i) (c.day_text.ensures.text i)) c.put_pair.ensures
