use Rattle.pc_edges.proofs.lemmas.page.PageLaws.{Adds-as, ◌⨾◌}
use Rattle.pc_cert.proofs.WordLaws.{step_words}
use Rattle.pc_cert.proofs.head.put_step.Goals as goal

pub returns : goal.returns
returns g c = record {
  text = Adds-as _ (step_words c.args.code.now) (c.put.ensures ⨾ c.put_code.ensures.text ⨾ c.put-2.ensures);
  fit = (c.put_code.ensures.code, tt);
}
