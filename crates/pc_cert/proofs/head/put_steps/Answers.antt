use Rattle.std.proofs.Common.{◌∷◌, ◌+◌, [], take, get_or, ap, subst}
use Rattle.std.proofs.lemmas.List.{take_more}
use Rattle.pc_model.specs.Codes.{text_at}
use Rattle.pc_cert.specs.declared.line.CertLine.TheVariants.{Step}
use Rattle.pc_cert.specs.Text.{AreWritable, text_of}
use Rattle.pc_edges.proofs.lemmas.page.PageLaws.{Adds-as, ◌⨾◌}
use Rattle.pc_cert.proofs.WordLaws.{text_of-map}
use Rattle.pc_cert.proofs.FitLaws.{AllFit-map}
use Rattle.pc_cert.proofs.head.put_steps.Goals as goal

pub loop-a-preserved : goal.loop-a-preserved
loop-a-preserved g c =
    let net = c.args.net.now in
    let walk = c.args.walk.now in
    let i = c.loop-a.a-index in
    let more = take_more walk i 0 c.loop-a-test.true in
    record {
      text = Adds-as _ (text_of-map (λ a. Step (text_at net.activities a)) (take i walk) (take (i + 1) walk) (get_or walk i 0) more)
          (c.loop-a.invariant.text ⨾ Adds-as _ (ap (λ code. text_of (Step code ∷ [])) c.activity_code.ensures) c.put_step.ensures.text);
      fit = AllFit-map (λ a. Step (text_at net.activities a)) (take i walk) (take (i + 1) walk) (get_or walk i 0) more
          c.loop-a.invariant.fit (subst (λ code. AreWritable (Step code ∷ [])) c.activity_code.ensures c.put_step.ensures.fit);
    }
