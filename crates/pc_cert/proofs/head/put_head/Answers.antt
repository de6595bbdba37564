use Rattle.std.proofs.Common.{◌∷◌}
use Rattle.pc_cert.specs.declared.line.CertLine.TheVariants.{Normal, Crash}
use Rattle.pc_cert.proofs.TextLaws.{AllFit-append}
use Rattle.pc_edges.proofs.lemmas.page.PageLaws.{Adds-as, ◌⨾◌}
use Rattle.pc_cert.specs.Document.{first_line, steps}
use Rattle.pc_cert.proofs.WordLaws.{text_of-headed}
use Rattle.pc_cert.proofs.head.put_head.Goals as goal

pub returns : goal.returns
returns g c =
    let net = c.args.net.now in
    let normal = steps net c.args.normal.now in
    let crash = steps net c.args.crash.now in
    record {
      text = Adds-as _ (text_of-headed (first_line net) Normal Crash normal crash)
          (c.put_first_line.ensures.text ⨾ c.put.ensures ⨾ c.put_steps.ensures.text ⨾ c.put-2.ensures ⨾ c.put_steps-2.ensures.text);
      fit = (c.put_first_line.ensures.fit.0, (tt, AllFit-append normal (Crash ∷ crash) c.put_steps.ensures.fit (tt, c.put_steps-2.ensures.fit)));
    }
