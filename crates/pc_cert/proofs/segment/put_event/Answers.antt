use Rattle.std.proofs.Common.{◌∷◌, [], ◌∙◌, subst}
use Rattle.pc_text.specs.Fields.{IsCode}
use Rattle.pc_cert.specs.declared.line.CertLine.TheVariants.{Event}
use Rattle.pc_cert.specs.Text.{text_of}
use Rattle.pc_edges.proofs.lemmas.page.PageLaws.{Adds-as, ◌⨾◌}
use Rattle.pc_cert.proofs.WordLaws.{event_words}
use Rattle.pc_cert.proofs.segment.put_event.Goals as goal

pub returns : goal.returns
returns g c = record {
  text = Adds-as _ (event_words c.event_code.result c.time.result c.moves.result ∙ (λ i. text_of (Event (c.event_code.ensures i) (c.time.ensures i) (c.moves.ensures i) ∷ [])))
      (c.put.ensures ⨾ c.put_code.ensures.text ⨾ c.put_number.ensures ⨾ c.put_bit.ensures ⨾ c.put-2.ensures);
  code = subst IsCode c.event_code.ensures c.put_code.ensures.code;
}
