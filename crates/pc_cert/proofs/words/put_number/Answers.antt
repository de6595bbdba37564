use Rattle.std.proofs.Common.{append-nil, sym}
use Rattle.std.specs.Prelude.{decimal}
use Rattle.pc_edges.proofs.lemmas.page.PageLaws.{Adds-as, ◌⨾◌}
use Rattle.pc_cert.proofs.words.put_number.Goals as goal

pub returns : goal.returns
returns g c = c.put.ensures ⨾ Adds-as _ (sym (append-nil (decimal c.args.number))) c.put_number.ensures
