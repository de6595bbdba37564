use Rattle.std.proofs.Common.{rules}
use Rattle.std.specs.Prelude.{codes}
use Rattle.std.specs.Fmt.{signed_decimal}
use Rattle.pc_edges.proofs.lemmas.page.PageLaws.{◌⨾◌, Adds-as}
use Rattle.pc_edges.specs.page.Lines.{word_line}
use Rattle.pc_total.proofs.report.put_best.Goals as goal

pub returns : goal.returns
returns g c =
    let best = c.args.best.now in
    c.put_code.ensures ⨾ c.put_number.ensures ⨾ c.put_number-2.ensures
    ⨾ Adds-as (word_line (codes "TIME ") (signed_decimal best.time)) (search rules) c.put_amount.ensures
    ⨾ Adds-as (word_line (codes "TOTAL ") (signed_decimal best.total)) (search rules) c.put_amount-2.ensures
    ⨾ c.put_difference.ensures ⨾ c.put_difference-2.ensures
