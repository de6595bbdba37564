use Rattle.std.proofs.Common.{append-nil, sym, ◌∙◌}
use Rattle.pc_edges.proofs.lemmas.page.PageLaws.{Adds-as, ◌⨾◌}
use Rattle.pc_cert.proofs.words.put_code.Goals as goal

pub returns-clause-text : goal.returns-clause-text
returns-clause-text g c = c.put.ensures ⨾ Adds-as _ (c.bytes.ensures.value ∙ sym (append-nil c.args.code.now)) c.put-2.ensures
