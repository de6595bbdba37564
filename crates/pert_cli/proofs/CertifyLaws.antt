-- The answer to `certify` prints the complete time-cost curve.
use Rattle.std.proofs.Common.{◌≡◌, ℕ, List, [], Option, Some, None, append-nil, refl, sym, subst, ◌∙◌}
use Rattle.std.specs.Prelude.{IfSome, String}
use Rattle.std.specs.declared.alloc.Global.{Global}
use Rattle.pc_project.specs.Project.{Project}
use Rattle.pc_certify.specs.Certificate.{IsCertificate}
use Rattle.pc_check.proofs.HeadlineLaws.{prints_whole_curve}
use Rattle.pc_check.specs.Headline.{PrintsWholeCurve}
use Rattle.pc_cert.proofs.TextLaws.{text_once}
use Rattle.pc_cert.specs.Reader.{IsWhole}
use Rattle.pc_cert.specs.Text.{text_of}
use Rattle.pc_cert.specs.declared.line.CertLine.{CertLine}
use Rattle.pc_crash.specs.Priced.{PricedNetwork}
use Rattle.pc_project.proofs.lemmas.shell.PricedLaws.{is_named, is_priced, priced_as}
use Rattle.pert_cli.specs.declared.forms.Form.TheVariants.{Certify}
use Rattle.pc_project.specs.declared.shell.status.Status.{Status}
use Rattle.pc_project.specs.inside.shell.Status.{exit_code_of}
use Rattle.pc_project.specs.shell.Priced.{priced_in, priced_of}
use Rattle.pert_cli.proofs.AnsweredLaws.{answered}
use Rattle.pert_cli.proofs.FormDeckLaws.{read_project}
use Rattle.pert_cli.specs.Words.{AskFor}
use Rattle.pert_cli.specs.Headline.{TookWholeCurve}
use Rattle.pc_project.specs.shell.Sides.{Side, OfBytes, Took}
use Rattle.pc_project.specs.shell.Verdict.{IsProjectOf}
use Rattle.pert_cli.specs.inside.Outcome.{Outcome}

-- the lines of a complete certificate are those of its text
lines_once : (lines others : List CertLine) (text : List ℕ) → IsWhole lines text → IsWhole others text → others ≡ lines
lines_once lines others text is also =
    (text_once others lines [] [] also.led.fit is.led.fit tt tt
    (append-nil (text_of others) ∙ (sym also.whole ∙ (is.whole ∙ sym (append-nil (text_of lines)))))).0

of_deck : {X : Type 0} (left : Option (List ℕ)) (out : Side X) (project : Project) (text : List ℕ) → Took out text → IsCertificate (priced_in project) text
    → IfSome left (λ bytes. IsProjectOf bytes project) → IfSome left (TookWholeCurve out)
of_deck None out project text took is accepted = tt
of_deck (Some bytes) out project text took is accepted =
    let prints : PrintsWholeCurve (priced_of accepted.deck) text = subst (λ (net : PricedNetwork). PrintsWholeCurve net text) (priced_as accepted.deck project accepted.is)
    (prints_whole_curve (priced_in project) text _ (is_priced bytes project accepted) (is_named bytes project accepted) is.certified) in
    record {
      deck = accepted.deck;
      accepted = accepted.accepted;
      text = text;
      took = took;
      prints = prints;
      once = λ others also. lines_once prints.lines others text prints.whole also;
    }

module _ {S O E : Type 0} (words : List (String Global)) (source : Side S) (out : Side O) (err : Side E) (answer : ℕ) where
  -- if a run for `certify` ended with 0, the output took the complete curve
  pub takes_whole_curve : (status : Status) → Outcome words source out err status → answer ≡ exit_code_of status → answer ≡ 0 → AskFor Certify words → OfBytes source (TookWholeCurve out)
  takes_whole_curve status outcome code at_0 asked =
      let given = answered words source out err answer Certify asked status outcome code at_0 in
      of_deck (source.bytes source.old) out given.1.project given.0 given.2 given.1.reply.right (read_project source Certify given.1.project refl given.1.deck).is
