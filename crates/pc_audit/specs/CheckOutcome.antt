-- What a check of a certificate means and has done, by its status.
use Rattle.std.specs.Prelude.{◌≡◌, ℕ, List, String}
use Rattle.std.specs.declared.alloc.Global.{Global}
use Rattle.pc_check.specs.declared.checker.Verdict.{Verdict}
use Rattle.pc_deck.specs.Limits.{longest_deck}
use Rattle.pc_audit.specs.Certificate.{check_usage_text, verdict_text, HasVerdict, IsSettledFor, IsUnsettledFor}
use Rattle.pc_project.specs.shell.Sides.{Side, HadFault, IsReadToEnd, IsUntouched, OfBytes, Took, TookAtMost, TookFront}
use Rattle.pc_project.specs.shell.OneWord.{IsOneWord, IsRefusalCut}
use Rattle.pc_project.specs.shell.Verdict.{AcceptedBy}

-- the bytes that the two sources had left have P, if the sources show them
abbrev pub OfBoth : {D C : Type 0} → Side D → Side C → (List ℕ → List ℕ → Type 0) → Type 0
OfBoth deck cert P = OfBytes deck (λ bytes. OfBytes cert (P bytes))

-- there is one word, the deck was read to its end and is accepted, the certificate has this verdict without a fault of
-- its source and with nothing pulled after its first failing line, and the output took the line with the verdict
pub record IsChecked {D C O : Type 0} (words : List (String Global)) (deck : Side D) (cert : Side C) (out : Side O) (verdict : Verdict) : Type 0 where
  pub asked : IsOneWord words
  pub read : IsReadToEnd deck
  pub accepted : OfBytes deck AcceptedBy
  pub has : OfBoth deck cert (λ bytes text. HasVerdict bytes text verdict)
  pub settled : OfBytes deck (λ bytes. IsSettledFor bytes cert verdict)
  pub no_fault : cert.faults cert.new ≡ cert.faults cert.old
  pub took : Took out (verdict_text verdict)

-- the same, but that a fault of the output came when it had taken a front of the line
pub record IsVerdictCut {D C O : Type 0} (words : List (String Global)) (deck : Side D) (cert : Side C) (out : Side O) : Type 0 where
  pub asked : IsOneWord words
  pub read : IsReadToEnd deck
  pub accepted : OfBytes deck AcceptedBy
  pub verdict : Verdict
  pub has : OfBoth deck cert (λ bytes text. HasVerdict bytes text verdict)
  pub settled : OfBytes deck (λ bytes. IsSettledFor bytes cert verdict)
  pub no_fault : cert.faults cert.new ≡ cert.faults cert.old
  pub took : TookFront out (verdict_text verdict)

-- where a write fault occurred: in the verdict, in the line of a fault, or in the usage line. The other output is unchanged, and
-- the certificate is unread if no verdict was found
pub data IsCheckCut {D C O E : Type 0} (words : List (String Global)) (deck : Side D) (cert : Side C) (out : Side O) (err : Side E) : Type 0 where
  in_verdict : IsVerdictCut words deck cert out → IsUntouched err → IsCheckCut words deck cert out err
  in_refusal : IsRefusalCut words deck err → IsUntouched cert → IsUntouched out → IsCheckCut words deck cert out err
  in_check_usage : (IsOneWord words → ⊥) → TookFront err check_usage_text → IsUntouched deck → IsUntouched cert → IsUntouched out → IsCheckCut words deck cert out err

-- why there is no verdict: the deck could not be read, and no more of it was taken than a deck may have; or it was read
-- to its end and is accepted, and the certificate could not be read before any line of it failed
pub data IsUnread {D C : Type 0} (deck : Side D) (cert : Side C) : Type 0 where
  deck_unread : HadFault deck → TookAtMost longest_deck deck → IsUntouched cert → IsUnread deck cert
  cert_unread : IsReadToEnd deck → OfBytes deck AcceptedBy → HadFault cert → OfBytes deck (λ bytes. IsUnsettledFor bytes cert) → IsUnread deck cert
