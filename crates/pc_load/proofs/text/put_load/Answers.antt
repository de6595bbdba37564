use Rattle.std.proofs.Common.{ap}
use Rattle.pc_edges.proofs.lemmas.page.PageLaws.{◌⨾◌, Adds-as}
use Rattle.pc_load.specs.LoadText.{head_line, load_text}
use Rattle.pc_load.proofs.text.put_load.Goals as goal

pub returns : goal.returns
unfolding load_text
returns g c =
    Adds-as _ (ap (λ code. head_line code c.args.printed.now.days) c.code.ensures) c.put_named.ensures
    ⨾ c.put_rows.ensures ⨾ c.put.ensures ⨾ c.put_rows-2.ensures ⨾ c.put-2.ensures ⨾ c.put_rows-3.ensures
