-- Without a fault, the deck and the certificate decide how a check ends, except for out of memory.
use Rattle.std.proofs.Common.{◌≡◌, ℕ, List, Option, ◌⊎◌, inl, inr, arith}
use Rattle.std.specs.Prelude.{IfSome, String}
use Rattle.std.specs.declared.alloc.Global.{Global}
use Rattle.pc_faults.specs.declared.fault.Fault.{Fault}
use Rattle.pc_check.specs.declared.checker.Verdict.TheVariants.{Yes, No}
use Rattle.pc_project.specs.declared.shell.status.Status.{Status}
use Rattle.pc_project.specs.inside.shell.Status.{exit_code_of}
use Rattle.pc_audit.specs.Certificate.{HasVerdict, Certifies, ProvesCurve}
use Rattle.pc_audit.specs.CheckOutcome.{OfBoth, IsChecked, IsCheckCut, deck_unread, cert_unread, in_verdict, in_refusal, in_check_usage}
use Rattle.pc_audit.specs.inside.CheckOutcome.{CheckOutcome, certified, not_certified, deck_refused, check_usage, no_memory, read_fault, write_fault}
use Rattle.pc_project.specs.shell.OneWord.{IsOneWord}
use Rattle.pc_project.specs.shell.Sides.{Side, HadNoFault, OfBytes}
use Rattle.pc_project.specs.shell.Verdict.{AcceptedBy, RefusedBy, IsFault}
use Rattle.pc_audit.proofs.CheckLaws.{curve_of, one_verdict}
use Rattle.pc_project.proofs.lemmas.shell.ReadingLaws.{refusal_is_fault}
use Rattle.pc_project.proofs.lemmas.shell.SideLaws.{of_any, of_one}
use Rattle.pc_project.proofs.lemmas.shell.VerdictLaws.{not_both}

-- ---- what holds of the bytes of one or two sources

of_two : (left right : Option (List ℕ)) (P Q : List ℕ → List ℕ → Type 0) → ((bytes text : List ℕ) → P bytes text → Q bytes text) →
    IfSome left (λ bytes. IfSome right (P bytes)) → IfSome left (λ bytes. IfSome right (Q bytes))
of_two left right P Q follows = of_one left _ _ (λ bytes. of_one right (P bytes) (Q bytes) (follows bytes))

of_any_two : (left right : Option (List ℕ)) (Q : List ℕ → List ℕ → Type 0) → ((bytes text : List ℕ) → Q bytes text) → IfSome left (λ bytes. IfSome right (Q bytes))
of_any_two left right Q holds = of_any left _ (λ bytes. of_any right (Q bytes) (holds bytes))

of_first : (left right : Option (List ℕ)) (P : List ℕ → Type 0) (Q : List ℕ → List ℕ → Type 0) →
    ((bytes text : List ℕ) → P bytes → Q bytes text) → IfSome left P → IfSome left (λ bytes. IfSome right (Q bytes))
of_first left right P Q follows = of_one left P _ (λ bytes is. of_any right (Q bytes) (λ text. follows bytes text is))

-- ---- the headline

-- a check that ended with 0 found a certificate that proves the complete curve
pub proves : {D C O : Type 0} (words : List (String Global)) (deck : Side D) (cert : Side C) (out : Side O) (segments : ℕ) → IsChecked words deck cert out (Yes segments) → OfBoth deck cert ProvesCurve
proves words deck cert out segments is =
    of_two (deck.bytes deck.old) (cert.bytes cert.old) (λ bytes text. HasVerdict bytes text (Yes segments)) ProvesCurve (λ bytes text h. curve_of bytes text segments h) is.has

-- the deck of a certified certificate is accepted
accepted_by : (bytes text : List ℕ) → Certifies bytes text → AcceptedBy bytes
accepted_by bytes text right = (right.1.accepted.deck, right.1.accepted.accepted)

module _ {D C O E : Type 0} (words : List (String Global)) (deck : Side D) (cert : Side C) (out : Side O) (err : Side E) (answer : ℕ) where
  -- an accepted deck is not refused
  refusal_denied : (bytes : List ℕ) (fault : Fault) → AcceptedBy bytes → IsFault bytes fault → ⊥
  refusal_denied bytes fault accepted is = not_both bytes accepted.0 fault accepted.1 is

  -- a check that ended with 0 found a certificate certified
  pub found_certified : (status : Status) → CheckOutcome words deck cert out err status → answer ≡ exit_code_of status → answer ≡ 0 → (segments : ℕ) × IsChecked words deck cert out (Yes segments)
  found_certified _ (certified segments is read same) code at_0 = (segments, is)
  found_certified _ (not_certified line reason is same) code at_0 = absurd (omega (arith, code, at_0))
  found_certified _ (deck_refused is same also) code at_0 = absurd (omega (arith, code, at_0))
  found_certified _ (check_usage no_word took same also unused) code at_0 = absurd (omega (arith, code, at_0))
  found_certified _ (no_memory asked left same also) code at_0 = absurd (omega (arith, code, at_0))
  found_certified _ (read_fault asked unread same also) code at_0 = absurd (omega (arith, code, at_0))
  found_certified _ (write_fault is) code at_0 = absurd (omega (arith, code, at_0))

  -- a check that ended with 6 found its first failing point
  pub found_failing : (status : Status) → CheckOutcome words deck cert out err status → answer ≡ exit_code_of status → answer ≡ 6 → (line reason : ℕ) × IsChecked words deck cert out (No line reason)
  found_failing _ (certified segments is read same) code at_6 = absurd (omega (arith, code, at_6))
  found_failing _ (not_certified line reason is same) code at_6 = (line, reason, is)
  found_failing _ (deck_refused is same also) code at_6 = absurd (omega (arith, code, at_6))
  found_failing _ (check_usage no_word took same also unused) code at_6 = absurd (omega (arith, code, at_6))
  found_failing _ (no_memory asked left same also) code at_6 = absurd (omega (arith, code, at_6))
  found_failing _ (read_fault asked unread same also) code at_6 = absurd (omega (arith, code, at_6))
  found_failing _ (write_fault is) code at_6 = absurd (omega (arith, code, at_6))

  -- a check that ended with 0 found a certificate that proves the complete curve
  pub headline : (status : Status) → CheckOutcome words deck cert out err status → answer ≡ exit_code_of status → answer ≡ 0 → OfBoth deck cert ProvesCurve
  headline _ (certified segments is read same) code at_0 = proves words deck cert out segments is
  headline _ (not_certified line reason is same) code at_0 = absurd (omega (arith, code, at_0))
  headline _ (deck_refused is same also) code at_0 = absurd (omega (arith, code, at_0))
  headline _ (check_usage no_word took same also unused) code at_0 = absurd (omega (arith, code, at_0))
  headline _ (no_memory asked left same also) code at_0 = absurd (omega (arith, code, at_0))
  headline _ (read_fault asked unread same also) code at_0 = absurd (omega (arith, code, at_0))
  headline _ (write_fault is) code at_0 = absurd (omega (arith, code, at_0))

  -- a check that ended with 5 was cut
  pub check_cut : (status : Status) → CheckOutcome words deck cert out err status → answer ≡ exit_code_of status → answer ≡ 5 → IsCheckCut words deck cert out err
  check_cut _ (certified segments is read same) code five = absurd (omega (arith, code, five))
  check_cut _ (not_certified line reason is same) code five = absurd (omega (arith, code, five))
  check_cut _ (deck_refused is same also) code five = absurd (omega (arith, code, five))
  check_cut _ (check_usage no_word took same also unused) code five = absurd (omega (arith, code, five))
  check_cut _ (no_memory asked left same also) code five = absurd (omega (arith, code, five))
  check_cut _ (read_fault asked unread same also) code five = absurd (omega (arith, code, five))
  check_cut _ (write_fault is) code five = is

  -- a deck that is not refused is accepted
  pub not_refused_accepts : IsOneWord words → HadNoFault deck → (status : Status) → CheckOutcome words deck cert out err status →
      answer ≡ exit_code_of status → OfBytes deck (λ bytes. (RefusedBy bytes → ⊥) → AcceptedBy bytes ⊎ (answer ≡ 3))
  not_refused_accepts asked reads _ (certified segments is read same) code = of_one (deck.bytes deck.old) AcceptedBy _ (λ bytes accepted never. inl accepted) is.accepted
  not_refused_accepts asked reads _ (not_certified line reason is same) code = of_one (deck.bytes deck.old) AcceptedBy _ (λ bytes accepted never. inl accepted) is.accepted
  not_refused_accepts asked reads _ (deck_refused is same also) code =
      of_one (deck.bytes deck.old) (λ bytes. IsFault bytes is.fault) _ (λ bytes faulty never. absurd (never (is.fault, faulty))) (refusal_is_fault deck is.fault is.refusal)
  not_refused_accepts asked reads _ (check_usage no_word took same also unused) code = absurd (no_word asked)
  not_refused_accepts asked reads _ (no_memory one left same also) code = of_any (deck.bytes deck.old) _ (λ bytes never. inr code)
  not_refused_accepts asked reads _ (read_fault one (deck_unread rose few unread) same also) code = absurd (reads rose)
  not_refused_accepts asked reads _ (read_fault one (cert_unread read accepted rose unsettled) same also) code = of_one (deck.bytes deck.old) AcceptedBy _ (λ bytes is never. inl is) accepted
  not_refused_accepts asked reads _ (write_fault (in_verdict is same)) code = of_one (deck.bytes deck.old) AcceptedBy _ (λ bytes accepted never. inl accepted) is.accepted
  not_refused_accepts asked reads _ (write_fault (in_refusal is same also)) code =
      of_one (deck.bytes deck.old) (λ bytes. IsFault bytes is.fault) _ (λ bytes faulty never. absurd (never (is.fault, faulty))) (refusal_is_fault deck is.fault is.refusal)
  not_refused_accepts asked reads _ (write_fault (in_check_usage no_word took same also unused)) code = absurd (no_word asked)

  -- a deck with a fault is refused
  pub refused_deck_ends : IsOneWord words → (status : Status) → CheckOutcome words deck cert out err status → answer ≡ exit_code_of status →
      OfBytes deck (λ bytes. RefusedBy bytes → HadNoFault deck → HadNoFault err → (answer ≡ 1) ⊎ (answer ≡ 3))
  refused_deck_ends asked _ (certified segments is read same) code =
      of_one (deck.bytes deck.old) AcceptedBy _ (λ bytes accepted faulty reads takes. absurd (refusal_denied bytes (faulty.0) accepted (faulty.1))) is.accepted
  refused_deck_ends asked _ (not_certified line reason is same) code =
      of_one (deck.bytes deck.old) AcceptedBy _ (λ bytes accepted faulty reads takes. absurd (refusal_denied bytes (faulty.0) accepted (faulty.1))) is.accepted
  refused_deck_ends asked _ (deck_refused is same also) code = of_any (deck.bytes deck.old) _ (λ bytes faulty reads takes. inl code)
  refused_deck_ends asked _ (check_usage no_word took same also unused) code = absurd (no_word asked)
  refused_deck_ends asked _ (no_memory one left same also) code = of_any (deck.bytes deck.old) _ (λ bytes faulty reads takes. inr code)
  refused_deck_ends asked _ (read_fault one (deck_unread rose few unread) same also) code = of_any (deck.bytes deck.old) _ (λ bytes faulty reads takes. absurd (reads rose))
  refused_deck_ends asked _ (read_fault one (cert_unread read accepted rose unsettled) same also) code =
      of_one (deck.bytes deck.old) AcceptedBy _ (λ bytes is faulty reads takes. absurd (refusal_denied bytes (faulty.0) is (faulty.1))) accepted
  refused_deck_ends asked _ (write_fault (in_verdict is same)) code =
      of_one (deck.bytes deck.old) AcceptedBy _ (λ bytes accepted faulty reads takes. absurd (refusal_denied bytes (faulty.0) accepted (faulty.1))) is.accepted
  refused_deck_ends asked _ (write_fault (in_refusal is same also)) code = of_any (deck.bytes deck.old) _ (λ bytes faulty reads takes. absurd (takes is.took.fault))
  refused_deck_ends asked _ (write_fault (in_check_usage no_word took same also unused)) code = absurd (no_word asked)

  -- a certified certificate is found to be one
  pub right_ends : IsOneWord words → (status : Status) → CheckOutcome words deck cert out err status → answer ≡ exit_code_of status
      → OfBoth deck cert (λ bytes text. Certifies bytes text → HadNoFault deck → HadNoFault cert → HadNoFault out → (answer ≡ 0) ⊎ (answer ≡ 3))
  right_ends asked _ (certified segments is read same) code = of_any_two (deck.bytes deck.old) (cert.bytes cert.old) _ (λ bytes text sure reads also takes. inl code)
  right_ends asked _ (not_certified line reason is same) code =
      of_two (deck.bytes deck.old) (cert.bytes cert.old) (λ bytes text. HasVerdict bytes text (No line reason)) _
      (λ bytes text failing sure reads also takes. absurd (one_verdict bytes text sure (line, reason, failing))) is.has
  right_ends asked _ (deck_refused is same also) code =
      of_first (deck.bytes deck.old) (cert.bytes cert.old) (λ bytes. IsFault bytes is.fault) _
      (λ bytes text faulty sure reads all takes. absurd (refusal_denied bytes is.fault (accepted_by bytes text sure) faulty))
      (refusal_is_fault deck is.fault is.refusal)
  right_ends asked _ (check_usage no_word took same also unused) code = absurd (no_word asked)
  right_ends asked _ (no_memory one left same also) code = of_any_two (deck.bytes deck.old) (cert.bytes cert.old) _ (λ bytes text sure reads all takes. inr code)
  right_ends asked _ (read_fault one (deck_unread rose few unread) same also) code = of_any_two (deck.bytes deck.old) (cert.bytes cert.old) _ (λ bytes text sure reads all takes. absurd (reads rose))
  right_ends asked _ (read_fault one (cert_unread read accepted rose unsettled) same also) code =
      of_any_two (deck.bytes deck.old) (cert.bytes cert.old) _ (λ bytes text sure reads all takes. absurd (all rose))
  right_ends asked _ (write_fault (in_verdict is same)) code = of_any_two (deck.bytes deck.old) (cert.bytes cert.old) _ (λ bytes text sure reads all takes. absurd (takes is.took.fault))
  right_ends asked _ (write_fault (in_refusal is same also)) code =
      of_first (deck.bytes deck.old) (cert.bytes cert.old) (λ bytes. IsFault bytes is.fault) _
      (λ bytes text faulty sure reads all takes. absurd (refusal_denied bytes is.fault (accepted_by bytes text sure) faulty))
      (refusal_is_fault deck is.fault is.refusal)
  right_ends asked _ (write_fault (in_check_usage no_word took same also unused)) code = absurd (no_word asked)

  -- each other certificate of an accepted deck is found to fail
  pub wrong_ends : IsOneWord words → (status : Status) → CheckOutcome words deck cert out err status → answer ≡ exit_code_of status
      → OfBoth deck cert (λ bytes text. AcceptedBy bytes → (Certifies bytes text → ⊥) → HadNoFault deck → HadNoFault cert → HadNoFault out → (answer ≡ 6) ⊎ (answer ≡ 3))
  wrong_ends asked _ (certified segments is read same) code =
      of_two (deck.bytes deck.old) (cert.bytes cert.old) (λ bytes text. HasVerdict bytes text (Yes segments)) _
      (λ bytes text sure accepted wrong reads all takes. absurd (wrong (segments, sure))) is.has
  wrong_ends asked _ (not_certified line reason is same) code = of_any_two (deck.bytes deck.old) (cert.bytes cert.old) _ (λ bytes text accepted wrong reads all takes. inl code)
  wrong_ends asked _ (deck_refused is same also) code =
      of_first (deck.bytes deck.old) (cert.bytes cert.old) (λ bytes. IsFault bytes is.fault) _
      (λ bytes text faulty accepted wrong reads all takes. absurd (refusal_denied bytes is.fault accepted faulty))
      (refusal_is_fault deck is.fault is.refusal)
  wrong_ends asked _ (check_usage no_word took same also unused) code = absurd (no_word asked)
  wrong_ends asked _ (no_memory one left same also) code = of_any_two (deck.bytes deck.old) (cert.bytes cert.old) _ (λ bytes text accepted wrong reads all takes. inr code)
  wrong_ends asked _ (read_fault one (deck_unread rose few unread) same also) code =
      of_any_two (deck.bytes deck.old) (cert.bytes cert.old) _ (λ bytes text accepted wrong reads all takes. absurd (reads rose))
  wrong_ends asked _ (read_fault one (cert_unread read is rose unsettled) same also) code =
      of_any_two (deck.bytes deck.old) (cert.bytes cert.old) _ (λ bytes text accepted wrong reads all takes. absurd (all rose))
  wrong_ends asked _ (write_fault (in_verdict is same)) code = of_any_two (deck.bytes deck.old) (cert.bytes cert.old) _ (λ bytes text accepted wrong reads all takes. absurd (takes is.took.fault))
  wrong_ends asked _ (write_fault (in_refusal is same also)) code =
      of_first (deck.bytes deck.old) (cert.bytes cert.old) (λ bytes. IsFault bytes is.fault) _
      (λ bytes text faulty accepted wrong reads all takes. absurd (refusal_denied bytes is.fault accepted faulty))
      (refusal_is_fault deck is.fault is.refusal)
  wrong_ends asked _ (write_fault (in_check_usage no_word took same also unused)) code = absurd (no_word asked)
