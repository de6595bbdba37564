use Rattle.std.proofs.Common.{rules}
use Rattle.std.specs.Fmt.{signed_decimal}
use Rattle.pc_edges.specs.page.Lines.{word_line}
use Rattle.pc_edges.proofs.lemmas.page.PageLaws.{Adds-as}
use Rattle.pc_total.proofs.report.put_amount.Goals as goal

pub returns : goal.returns
returns g c = Adds-as (word_line c.args.word.now (signed_decimal c.args.amount)) (search rules) c.put_line.ensures
