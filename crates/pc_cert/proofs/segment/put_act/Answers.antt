use Rattle.std.proofs.Common.{◌∷◌, [], ◌∙◌, subst}
use Rattle.pc_text.specs.Fields.{IsCode}
use Rattle.pc_cert.specs.declared.line.CertLine.TheVariants.{Act}
use Rattle.pc_cert.specs.Document.{flows_along}
use Rattle.pc_cert.specs.Text.{text_of}
use Rattle.pc_edges.proofs.lemmas.page.PageLaws.{Adds-as, ◌⨾◌}
use Rattle.pc_cert.proofs.WordLaws.{act_words}
use Rattle.pc_cert.proofs.segment.put_act.Goals as goal

pub returns : goal.returns
returns g c =
    let flows = flows_along c.args.net.now (g.V.SegmentView.segment c.args.view.now) c.args.a in
    record {
      text = Adds-as _ (act_words c.activity_code.result c.duration.result flows ∙ (λ i. text_of (Act (c.activity_code.ensures i) (c.duration.ensures i) flows ∷ [])))
          (c.put.ensures ⨾ c.put_code.ensures.text ⨾ c.put_number.ensures ⨾ c.put_flows.ensures ⨾ c.put-2.ensures);
      code = subst IsCode c.activity_code.ensures c.put_code.ensures.code;
    }
