-- How the parts of a check make its outcome, and what its outcome says.
use Rattle.std.proofs.Common.{◌≡◌, ℕ, ◌+◌, List, Option, Some, None, sym, ap, subst}
use Rattle.std.specs.Prelude.{IfSome, String}
use Rattle.std.specs.declared.alloc.Global.{Global}
use Rattle.pc_edges.specs.Pulls.{TakesPulls}
use Rattle.pc_check.specs.declared.checker.Fail.{Fail}
use Rattle.pc_check.specs.declared.checker.Verdict.{Verdict}
use Rattle.pc_check.specs.declared.checker.Verdict.TheVariants.{Yes, No}
use Rattle.pc_check.specs.Texts.{IsCertified, IsFailing, Finds}
use Rattle.pc_check.specs.Auditing.{most_bytes}
use Rattle.pc_check.specs.OwnLines.{KeepsToOwnLines}
use Rattle.pc_check.proofs.OwnTurnLaws.{unpulled_keeps}
use Rattle.pc_check.proofs.TextLaws.{not_both as one_text_verdict, one_number}
use Rattle.pc_check.proofs.OnceLaws.{one_failure}
use Rattle.pc_edges.proofs.PullLaws.{TakesPulls-none}
use Rattle.pc_project.specs.Project.{Project}
use Rattle.pc_project.specs.declared.shell.status.Status.{Status}
use Rattle.pc_project.specs.shell.Priced.{priced_in, priced_of}
use Rattle.pc_project.specs.shell.OneWord.{IsOneWord}
use Rattle.pc_project.specs.inside.shell.OneWord.{EndsWithout}
use Rattle.pc_project.specs.inside.shell.OneWord as ends
use Rattle.pc_audit.specs.Certificate.{check_usage_text, verdict_text, HasVerdict, Certifies, FailsAsCertificate, ProvesCurve}
use Rattle.pc_audit.specs.Certificate.{KeepsToOwnLinesFor, IsSettledFor, IsSettledIn, IsUnsettledFor, IsUnsettledIn}
use Rattle.pc_audit.specs.inside.Certificate.{IsFound, status_for, Told, told, cut, CheckEndsWith, found, unread, no_room}
use Rattle.pc_audit.specs.CheckOutcome.{IsChecked, deck_unread, cert_unread, in_verdict, in_refusal, in_check_usage}
use Rattle.pc_audit.specs.inside.CheckOutcome.{CheckOutcome, certified, not_certified, deck_refused, check_usage, no_memory, read_fault, write_fault}
use Rattle.pc_project.specs.inside.shell.Reading.{HasProject}
use Rattle.pc_project.specs.shell.Sides.{Side, IsUntouched, Took}
use Rattle.pc_project.specs.shell.Verdict.{IsProjectOf, AcceptedBy}
use Rattle.pc_check.specs.Headline.{PrintsWholeCurve}
use Rattle.pc_crash.specs.Priced.{PricedNetwork}
use Rattle.pc_check.proofs.HeadlineLaws.{prints_whole_curve}
use Rattle.pc_project.proofs.lemmas.shell.PricedLaws.{is_named, is_priced, priced_as}
use Rattle.pc_project.proofs.lemmas.shell.VerdictLaws.{one_project}
use Rattle.pc_audit.proofs.OnceLaws.{whole_once}

-- ---- verdicts

-- no certificate is both certified and failing
pub one_verdict : (bytes text : List ℕ) → Certifies bytes text → FailsAsCertificate bytes text → ⊥
one_verdict bytes text right wrong =
    let sure = right.1 in
    let failing = wrong.2 in
    let point : Fail = record { line = wrong.0; reason = wrong.1 } in
    let same = one_project bytes failing.project sure.project failing.accepted sure.accepted in
    one_text_verdict (priced_in sure.project) text right.0 point sure.finds
    (subst (λ p. IsFailing (priced_in p) text point) same failing.finds)

-- a certificate is found to be one thing
pub one_finding : (bytes text : List ℕ) (verdict other : Verdict) → HasVerdict bytes text verdict → HasVerdict bytes text other → verdict ≡ other
one_finding bytes text (Yes segments) (Yes others) a b =
    let same = one_project bytes b.project a.project b.accepted a.accepted in
    ap Yes (one_number (priced_in a.project) text segments others a.finds (subst (λ p. IsCertified (priced_in p) text others) same b.finds))
one_finding bytes text (Yes segments) (No line reason) a b = absurd (one_verdict bytes text (segments, a) (line, reason, b))
one_finding bytes text (No line reason) (Yes segments) a b = absurd (one_verdict bytes text (segments, b) (line, reason, a))
one_finding bytes text (No line reason) (No number cause) a b =
    let f : Fail = record { line = line; reason = reason } in
    let g : Fail = record { line = number; reason = cause } in
    let same = one_project bytes b.project a.project b.accepted a.accepted in
    ap (λ (fail : Fail). No fail.line fail.reason) (one_failure (priced_in a.project) text f g a.finds (subst (λ p. IsFailing (priced_in p) text g) same b.finds))

-- a certified certificate proves the complete curve
pub curve_of : (bytes text : List ℕ) (segments : ℕ) → HasVerdict bytes text (Yes segments) → ProvesCurve bytes text
curve_of bytes text segments h =
    let prints : PrintsWholeCurve (priced_of h.accepted.deck) text = subst (λ (net : PricedNetwork). PrintsWholeCurve net text) (priced_as h.accepted.deck h.project h.accepted.is)
    (prints_whole_curve (priced_in h.project) text segments (is_priced bytes h.project h.accepted) (is_named bytes h.project h.accepted) h.finds) in
    record {
      deck = h.accepted.deck;
      accepted = h.accepted.accepted;
      prints = prints;
      once = λ others is. whole_once prints.lines others text prints.whole is;
    }

-- ---- bytes of two sources

both_have : (left right : Option (List ℕ)) (project : Project) (verdict : Verdict) → IfSome left (λ bytes. IsProjectOf bytes project) →
    IfSome right (λ text. Finds (priced_in project) text verdict) →
    IfSome left (λ bytes. IfSome right (λ text. HasVerdict bytes text verdict))
both_have None right project verdict p q = tt
both_have (Some bytes) None project verdict p q = tt
both_have (Some bytes) (Some text) project verdict p q = record { project = project; accepted = p; finds = q }

accepted_of : (left : Option (List ℕ)) (project : Project) → IfSome left (λ bytes. IsProjectOf bytes project) → IfSome left AcceptedBy
accepted_of None project p = tt
accepted_of (Some bytes) project p = (p.deck, p.accepted)

settled_for : {X : Type 0} (left : Option (List ℕ)) (cert : Side X) (project : Project) (verdict : Verdict) → IfSome left (λ bytes. IsProjectOf bytes project)
    → IsSettledIn (priced_in project) verdict cert → IfSome left (λ bytes. IsSettledFor bytes cert verdict)
settled_for None cert project verdict p settled = tt
settled_for (Some bytes) cert project verdict p settled = record { project = project; accepted = p; settled = settled }

unsettled_for : {X : Type 0} (left : Option (List ℕ)) (cert : Side X) (project : Project) → IfSome left (λ bytes. IsProjectOf bytes project)
    → IsUnsettledIn (priced_in project) cert → IfSome left (λ bytes. IsUnsettledFor bytes cert)
unsettled_for None cert project p unsettled = tt
unsettled_for (Some bytes) cert project p unsettled = record { project = project; accepted = p; unsettled = unsettled }

-- what holds of the project of a deck holds of each project of it
pub of_each_project : (left : Option (List ℕ)) (project : Project) (P : Project → Type 0) →
    IfSome left (λ bytes. IsProjectOf bytes project) → P project →
    IfSome left (λ bytes. (other : Project) → IsProjectOf bytes other → P other)
of_each_project None project P is holds = tt
of_each_project (Some bytes) project P is holds = λ other also. subst P (one_project bytes project other is also) holds

-- a source from which nothing was pulled
pub unpulled : (left : Option (List ℕ)) (pulls : Option ℕ) → IfSome left (λ bytes. (project : Project) → IsProjectOf bytes project → TakesPulls (most_bytes (priced_in project) + 1) pulls pulls)
unpulled None pulls = tt
unpulled (Some bytes) pulls = λ project is. TakesPulls-none (most_bytes (priced_in project) + 1) pulls

-- a certificate of a project keeps to its own lines, and so does one from which nothing was pulled
pub keeps_to_lines : (left right : Option (List ℕ)) (pulls pulls_after : Option ℕ) (project : Project) → IfSome left (λ bytes. IsProjectOf bytes project)
    → IfSome right (λ text. KeepsToOwnLines (priced_in project) text pulls pulls_after) → IfSome left (λ bytes. IfSome right (KeepsToOwnLinesFor pulls pulls_after bytes))
keeps_to_lines None right pulls pulls_after project is keeps = tt
keeps_to_lines (Some bytes) None pulls pulls_after project is keeps = tt
keeps_to_lines (Some bytes) (Some text) pulls pulls_after project is keeps =
    λ other also. subst (λ (p : Project). KeepsToOwnLines (priced_in p) text pulls pulls_after) (one_project bytes project other is also) keeps

pub unpulled_keeps_to_lines : (left right : Option (List ℕ)) (pulls : Option ℕ) → IfSome left (λ bytes. IfSome right (KeepsToOwnLinesFor pulls pulls bytes))
unpulled_keeps_to_lines None right pulls = tt
unpulled_keeps_to_lines (Some bytes) None pulls = tt
unpulled_keeps_to_lines (Some bytes) (Some text) pulls = λ project is. unpulled_keeps (priced_in project) (Some text) pulls

-- ---- outcomes

module _ {D C O E : Type 0} (words : List (String Global)) (deck : Side D) (cert : Side C) (out : Side O) (err : Side E) where
  checked : (project : Project) (verdict : Verdict) → IsOneWord words → HasProject deck project → IsFound (priced_in project) cert verdict →
      Took out (verdict_text verdict) → IsChecked words deck cert out verdict
  checked project verdict asked has finds took = record {
    asked = asked;
    read = has.read;
    accepted = accepted_of (deck.bytes deck.old) project has.is;
    has = both_have (deck.bytes deck.old) (cert.bytes cert.old) project verdict has.is finds.finds;
    settled = settled_for (deck.bytes deck.old) cert project verdict has.is finds.settled;
    no_fault = finds.no_fault;
    took = took;
  }

  after_verdict : (project : Project) (verdict : Verdict) → IsOneWord words → HasProject deck project →
      IsFound (priced_in project) cert verdict → Took out (verdict_text verdict) → IsUntouched err →
      CheckOutcome words deck cert out err (status_for verdict)
  after_verdict project (Yes segments) asked has finds took same = certified segments (checked project (Yes segments) asked has finds took) finds.end same
  after_verdict project (No line reason) asked has finds took same = not_certified line reason (checked project (No line reason) asked has finds took) same

  after_told : (project : Project) (verdict : Verdict) (status : Status) → IsOneWord words → HasProject deck project →
      IsFound (priced_in project) cert verdict → IsUntouched err → Told verdict out status → CheckOutcome words deck cert out err status
  after_told project verdict _ asked has finds same (told status is took) = subst (CheckOutcome words deck cert out err) (sym is) (after_verdict project verdict asked has finds took same)
  after_told project verdict _ asked has finds same (cut took) = write_fault (in_verdict (record {
    asked = asked;
    read = has.read;
    accepted = accepted_of (deck.bytes deck.old) project has.is;
    verdict = verdict;
    has = both_have (deck.bytes deck.old) (cert.bytes cert.old) project verdict has.is finds.finds;
    settled = settled_for (deck.bytes deck.old) cert project verdict has.is finds.settled;
    no_fault = finds.no_fault;
    took = took;
  }) same)

  -- the deck is accepted, and a certificate of its project was checked
  pub after_check : (project : Project) (status : Status) → IsOneWord words → HasProject deck project → IsUntouched err → CheckEndsWith project cert out status →
      CheckOutcome words deck cert out err status
  after_check project _ asked has same (found verdict status finds tells) = after_told project verdict status asked has finds same tells
  after_check project _ asked has same (unread rose unsettled unused) =
      read_fault asked (cert_unread has.read (accepted_of (deck.bytes deck.old) project has.is) rose (unsettled_for (deck.bytes deck.old) cert project has.is unsettled)) unused same
  after_check project _ asked has same (no_room unread_cert unused) = no_memory asked unread_cert unused same

  -- there is no project, and the certificate and the output were left alone
  pub after_no_project : (status : Status) → EndsWithout words check_usage_text deck err status → IsUntouched cert → IsUntouched out → CheckOutcome words deck cert out err status
  after_no_project _ (ends.deck_refused is) unread_cert unused = deck_refused is unread_cert unused
  after_no_project _ (ends.not_one_word no_word took same) unread_cert unused = check_usage no_word took same unread_cert unused
  after_no_project _ (ends.no_memory asked same) unread_cert unused = no_memory asked unread_cert unused same
  after_no_project _ (ends.deck_unread asked rose few same) unread_cert unused = read_fault asked (deck_unread rose few unread_cert) unused same
  after_no_project _ (ends.refusal_cut is) unread_cert unused = write_fault (in_refusal is unread_cert unused)
  after_no_project _ (ends.usage_cut no_word took same) unread_cert unused = write_fault (in_check_usage no_word took same unread_cert unused)
