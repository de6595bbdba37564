use Rattle.std.proofs.Common.{◌≡◌, ◌∷◌, [], true, ◌∙◌, subst, arith, length}
use Rattle.pc_text.specs.Code.{is_code}
use Rattle.pc_cert.specs.declared.line.CertLine.TheVariants.{Head}
use Rattle.pc_cert.specs.Text.{text_of}
use Rattle.pc_edges.proofs.lemmas.page.PageLaws.{Adds-as, ◌⨾◌}
use Rattle.pc_cert.proofs.WordLaws.{head_words}
use Rattle.pc_cert.proofs.FitLaws.{is_version}
use Rattle.pc_cert.proofs.head.put_first_line.Goals as goal

pub returns : goal.returns
returns g c =
    let net = c.args.net.now in
    let events : c.from.result ≡ net.network.events = cc in
    let activities : c.from-2.result ≡ length net.network.arcs = cc in
    record {
      text = Adds-as _ (head_words c.version.result c.project.result c.from.result c.from-2.result ∙ (λ i. text_of (Head (c.version.ensures i) (c.project.ensures i) (events i) (activities i) ∷ [])))
          (c.put.ensures ⨾ c.put_number.ensures ⨾ c.put_code.ensures.text ⨾ c.put_number-2.ensures ⨾ c.put_number-3.ensures ⨾ c.put-2.ensures);
      fit = ((is_version (length net.pieces), subst (λ code. is_code code ≡ true) c.project.ensures c.put_code.ensures.code, omega arith, omega arith), tt);
    }
