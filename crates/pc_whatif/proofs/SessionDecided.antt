-- What the status of a session says, and what decides it without a fault, except for out of memory.
use Rattle.std.proofs.Common.{◌≡◌, ℕ, ◌+◌, ◌<◌, ◌≤◌, List, length, Option, Some, None, ◌⊎◌, inl, inr, arith, sym, ap, subst, length-append}
use Rattle.std.specs.Prelude.{IfSome, String}
use Rattle.std.specs.declared.alloc.Global.{Global}
use Rattle.std.specs.Io.KnownBytes.{Consumes}
use Rattle.pc_deck.specs.Limits.{longest_deck}
use Rattle.pc_faults.specs.declared.fault.Fault.{Fault}
use Rattle.pc_edges.specs.declared.lines.reader.TheConstants.{INPUT_LIMIT}
use Rattle.pc_project.specs.declared.shell.status.Status.{Status}
use Rattle.pc_project.specs.inside.shell.Status.{exit_code_of}
use Rattle.pc_project.specs.shell.OneWord.{IsOneWord}
use Rattle.pc_project.specs.shell.Sides.{Side, HadNoFault, IsReadToEnd, IsUntouched, OfBytes}
use Rattle.pc_project.specs.shell.Verdict.{AcceptedBy, RefusedBy, IsFault}
use Rattle.pc_project.proofs.lemmas.shell.ReadingLaws.{refusal_is_fault, refusal_reads}
use Rattle.pc_project.proofs.lemmas.shell.SideLaws.{of_any, of_one}
use Rattle.pc_project.proofs.lemmas.shell.VerdictLaws.{not_both}
use Rattle.pc_whatif.specs.Heard.{Meaning, IsHeardOut, IsHeardTooLong}
use Rattle.pc_whatif.specs.SessionOutcome.{IsSessionUnread, IsSessionCut, deck_unread, edits_unread, in_answers, in_refusal, in_usage}
use Rattle.pc_whatif.specs.inside.SessionOutcome.{SessionOutcome, heard_out, too_long, deck_refused, usage, no_memory, read_fault, write_fault}

-- ---- how much was taken

-- if a source reports its bytes, at most this many were taken
few_taken : (limit : ℕ) (left left_after : Option (List ℕ)) (bytes : List ℕ) (Q : Type 0) → Consumes left left_after bytes → length bytes ≤ limit
    → IfSome left (λ before. IfSome left_after (λ after. limit + length after < length before → Q))
few_taken limit None left_after bytes Q taken few = tt
few_taken limit (Some before) None bytes Q taken few = absurd taken
few_taken limit (Some before) (Some after) bytes Q taken few = λ more. absurd (omega (arith, ap length taken, length-append bytes after, few, more))

none_taken : (limit : ℕ) (left : Option (List ℕ)) (Q : Type 0) → IfSome left (λ before. IfSome left (λ after. limit + length after < length before → Q))
none_taken limit None Q = tt
none_taken limit (Some before) Q = λ more. absurd (omega (arith, more))

any_taken : (limit : ℕ) (left left_after : Option (List ℕ)) (Q : Type 0) → Q → IfSome left (λ before. IfSome left_after (λ after. limit + length after < length before → Q))
any_taken limit None left_after Q q = tt
any_taken limit (Some before) None Q q = tt
any_taken limit (Some before) (Some after) Q q = λ more. q

module _ {D C O E : Type 0} (means : Meaning) (words : List (String Global)) (deck : Side D) (edits : Side C) (out : Side O) (err : Side E) (answer : ℕ) where
  -- an accepted deck is not refused
  refusal_denied : (bytes : List ℕ) (fault : Fault) → AcceptedBy bytes → IsFault bytes fault → ⊥
  refusal_denied bytes fault accepted is = not_both bytes accepted.0 fault accepted.1 is

  pub ended : (status : Status) → SessionOutcome means words deck edits out err status → answer ≡ exit_code_of status → answer ≡ 0 → IsHeardOut means deck edits out
  ended _ (heard_out asked is same) code at_0 = is
  ended _ (too_long asked is same) code at_0 = absurd (omega (arith, code, at_0))
  ended _ (deck_refused is same also) code at_0 = absurd (omega (arith, code, at_0))
  ended _ (usage no_word took same also unused) code at_0 = absurd (omega (arith, code, at_0))
  ended _ (no_memory asked left same also) code at_0 = absurd (omega (arith, code, at_0))
  ended _ (read_fault asked unread same) code at_0 = absurd (omega (arith, code, at_0))
  ended _ (write_fault is) code at_0 = absurd (omega (arith, code, at_0))

  pub went_on : (status : Status) → SessionOutcome means words deck edits out err status → answer ≡ exit_code_of status → answer ≡ 8 → IsHeardTooLong means deck edits out
  went_on _ (heard_out asked is same) code at_8 = absurd (omega (arith, code, at_8))
  went_on _ (too_long asked is same) code at_8 = is
  went_on _ (deck_refused is same also) code at_8 = absurd (omega (arith, code, at_8))
  went_on _ (usage no_word took same also unused) code at_8 = absurd (omega (arith, code, at_8))
  went_on _ (no_memory asked left same also) code at_8 = absurd (omega (arith, code, at_8))
  went_on _ (read_fault asked unread same) code at_8 = absurd (omega (arith, code, at_8))
  went_on _ (write_fault is) code at_8 = absurd (omega (arith, code, at_8))

  pub not_read : (status : Status) → SessionOutcome means words deck edits out err status → answer ≡ exit_code_of status → answer ≡ 4 → IsSessionUnread means deck edits out
  not_read _ (heard_out asked is same) code at_4 = absurd (omega (arith, code, at_4))
  not_read _ (too_long asked is same) code at_4 = absurd (omega (arith, code, at_4))
  not_read _ (deck_refused is same also) code at_4 = absurd (omega (arith, code, at_4))
  not_read _ (usage no_word took same also unused) code at_4 = absurd (omega (arith, code, at_4))
  not_read _ (no_memory asked left same also) code at_4 = absurd (omega (arith, code, at_4))
  not_read _ (read_fault asked unread same) code at_4 = unread
  not_read _ (write_fault is) code at_4 = absurd (omega (arith, code, at_4))

  pub session_cut : (status : Status) → SessionOutcome means words deck edits out err status → answer ≡ exit_code_of status → answer ≡ 5 → IsSessionCut means words deck edits out err
  session_cut _ (heard_out asked is same) code five = absurd (omega (arith, code, five))
  session_cut _ (too_long asked is same) code five = absurd (omega (arith, code, five))
  session_cut _ (deck_refused is same also) code five = absurd (omega (arith, code, five))
  session_cut _ (usage no_word took same also unused) code five = absurd (omega (arith, code, five))
  session_cut _ (no_memory asked left same also) code five = absurd (omega (arith, code, five))
  session_cut _ (read_fault asked unread same) code five = absurd (omega (arith, code, five))
  session_cut _ (write_fault is) code five = is

  -- a deck that is refused and not too long was read to its end
  pub refused_is_read : (status : Status) → SessionOutcome means words deck edits out err status → answer ≡ exit_code_of status → answer ≡ 1 →
      OfBytes deck (λ bytes. length bytes ≤ longest_deck → IsReadToEnd deck)
  refused_is_read _ (heard_out asked is same) code at_1 = absurd (omega (arith, code, at_1))
  refused_is_read _ (too_long asked is same) code at_1 = absurd (omega (arith, code, at_1))
  refused_is_read _ (deck_refused is same also) code at_1 = refusal_reads IsFault deck is.fault is.refusal
  refused_is_read _ (usage no_word took same also unused) code at_1 = absurd (omega (arith, code, at_1))
  refused_is_read _ (no_memory asked left same also) code at_1 = absurd (omega (arith, code, at_1))
  refused_is_read _ (read_fault asked unread same) code at_1 = absurd (omega (arith, code, at_1))
  refused_is_read _ (write_fault is) code at_1 = absurd (omega (arith, code, at_1))

  -- a deck that is not refused is accepted
  pub not_refused_accepts : IsOneWord words → HadNoFault deck → (status : Status) → SessionOutcome means words deck edits out err status →
      answer ≡ exit_code_of status → OfBytes deck (λ bytes. (RefusedBy bytes → ⊥) → AcceptedBy bytes ⊎ (answer ≡ 3))
  not_refused_accepts asked reads _ (heard_out one is same) code = of_one (deck.bytes deck.old) AcceptedBy _ (λ bytes accepted never. inl accepted) is.heard.accepted
  not_refused_accepts asked reads _ (too_long one is same) code = of_one (deck.bytes deck.old) AcceptedBy _ (λ bytes accepted never. inl accepted) is.heard.accepted
  not_refused_accepts asked reads _ (deck_refused is same also) code =
      of_one (deck.bytes deck.old) (λ bytes. IsFault bytes is.fault) _ (λ bytes faulty never. absurd (never (is.fault, faulty))) (refusal_is_fault deck is.fault is.refusal)
  not_refused_accepts asked reads _ (usage no_word took same also unused) code = absurd (no_word asked)
  not_refused_accepts asked reads _ (no_memory one left same also) code = of_any (deck.bytes deck.old) _ (λ bytes never. inr code)
  not_refused_accepts asked reads _ (read_fault one (deck_unread rose few unread unused) same) code = absurd (reads rose)
  not_refused_accepts asked reads _ (read_fault one (edits_unread is) same) code = of_one (deck.bytes deck.old) AcceptedBy _ (λ bytes accepted never. inl accepted) is.heard.accepted
  not_refused_accepts asked reads _ (write_fault (in_answers one is same)) code = of_one (deck.bytes deck.old) AcceptedBy _ (λ bytes accepted never. inl accepted) is.accepted
  not_refused_accepts asked reads _ (write_fault (in_refusal is same also)) code =
      of_one (deck.bytes deck.old) (λ bytes. IsFault bytes is.fault) _ (λ bytes faulty never. absurd (never (is.fault, faulty))) (refusal_is_fault deck is.fault is.refusal)
  not_refused_accepts asked reads _ (write_fault (in_usage no_word took same also unused)) code = absurd (no_word asked)

  -- a deck with a fault is refused
  pub refused_deck_ends : IsOneWord words → (status : Status) → SessionOutcome means words deck edits out err status →
      answer ≡ exit_code_of status → OfBytes deck (λ bytes. RefusedBy bytes → HadNoFault deck → HadNoFault err → (answer ≡ 1) ⊎ (answer ≡ 3))
  refused_deck_ends asked _ (heard_out one is same) code =
      of_one (deck.bytes deck.old) AcceptedBy _ (λ bytes accepted faulty reads takes. absurd (refusal_denied bytes (faulty.0) accepted (faulty.1))) is.heard.accepted
  refused_deck_ends asked _ (too_long one is same) code =
      of_one (deck.bytes deck.old) AcceptedBy _ (λ bytes accepted faulty reads takes. absurd (refusal_denied bytes (faulty.0) accepted (faulty.1))) is.heard.accepted
  refused_deck_ends asked _ (deck_refused is same also) code = of_any (deck.bytes deck.old) _ (λ bytes faulty reads takes. inl code)
  refused_deck_ends asked _ (usage no_word took same also unused) code = absurd (no_word asked)
  refused_deck_ends asked _ (no_memory one left same also) code = of_any (deck.bytes deck.old) _ (λ bytes faulty reads takes. inr code)
  refused_deck_ends asked _ (read_fault one (deck_unread rose few unread unused) same) code = of_any (deck.bytes deck.old) _ (λ bytes faulty reads takes. absurd (reads rose))
  refused_deck_ends asked _ (read_fault one (edits_unread is) same) code =
      of_one (deck.bytes deck.old) AcceptedBy _ (λ bytes accepted faulty reads takes. absurd (refusal_denied bytes (faulty.0) accepted (faulty.1))) is.heard.accepted
  refused_deck_ends asked _ (write_fault (in_answers one is same)) code =
      of_one (deck.bytes deck.old) AcceptedBy _ (λ bytes accepted faulty reads takes. absurd (refusal_denied bytes (faulty.0) accepted (faulty.1))) is.accepted
  refused_deck_ends asked _ (write_fault (in_refusal is same also)) code = of_any (deck.bytes deck.old) _ (λ bytes faulty reads takes. absurd (takes is.took.fault))
  refused_deck_ends asked _ (write_fault (in_usage no_word took same also unused)) code = absurd (no_word asked)

  -- on an accepted deck lines are answered, to the end of the edits or to their limit
  pub accepted_deck_ends : IsOneWord words → (status : Status) → SessionOutcome means words deck edits out err status → answer ≡ exit_code_of status
      → OfBytes deck (λ bytes. AcceptedBy bytes → HadNoFault deck → HadNoFault edits → HadNoFault out → (answer ≡ 0) ⊎ ((answer ≡ 3) ⊎ (answer ≡ 8)))
  accepted_deck_ends asked _ (heard_out one is same) code = of_any (deck.bytes deck.old) _ (λ bytes accepted reads also takes. inl code)
  accepted_deck_ends asked _ (too_long one is same) code = of_any (deck.bytes deck.old) _ (λ bytes accepted reads also takes. inr (inr code))
  accepted_deck_ends asked _ (deck_refused is same other) code =
      of_one (deck.bytes deck.old) (λ bytes. IsFault bytes is.fault) _
      (λ bytes faulty accepted reads also takes. absurd (refusal_denied bytes is.fault accepted faulty))
      (refusal_is_fault deck is.fault is.refusal)
  accepted_deck_ends asked _ (usage no_word took same also unused) code = absurd (no_word asked)
  accepted_deck_ends asked _ (no_memory one left same other) code = of_any (deck.bytes deck.old) _ (λ bytes accepted reads also takes. inr (inl code))
  accepted_deck_ends asked _ (read_fault one (deck_unread rose few unread unused) same) code = of_any (deck.bytes deck.old) _ (λ bytes accepted reads also takes. absurd (reads rose))
  accepted_deck_ends asked _ (read_fault one (edits_unread is) same) code = of_any (deck.bytes deck.old) _ (λ bytes accepted reads also takes. absurd (also is.fault))
  accepted_deck_ends asked _ (write_fault (in_answers one is same)) code = of_any (deck.bytes deck.old) _ (λ bytes accepted reads also takes. absurd (takes is.answered.took.fault))
  accepted_deck_ends asked _ (write_fault (in_refusal is same other)) code =
      of_one (deck.bytes deck.old) (λ bytes. IsFault bytes is.fault) _
      (λ bytes faulty accepted reads also takes. absurd (refusal_denied bytes is.fault accepted faulty))
      (refusal_is_fault deck is.fault is.refusal)
  accepted_deck_ends asked _ (write_fault (in_usage no_word took same also unused)) code = absurd (no_word asked)

  -- from edits that are left alone nothing is taken
  untouched_taken : (Q : Type 0) → IsUntouched edits → OfBytes edits (λ before. IfSome (edits.bytes edits.new) (λ after. INPUT_LIMIT + length after < length before → Q))
  untouched_taken Q same =
      subst (λ (left : Option (List ℕ)). IfSome (edits.bytes edits.old) (λ before. IfSome left (λ after. INPUT_LIMIT + length after < length before → Q)))
      (sym (ap edits.bytes same)) (none_taken INPUT_LIMIT (edits.bytes edits.old) Q)

  -- if more is taken of the edits than they may have, the status is 8
  pub long_edits_end : HadNoFault out → (status : Status) → SessionOutcome means words deck edits out err status → answer ≡ exit_code_of status
      → OfBytes edits (λ before. IfSome (edits.bytes edits.new) (λ after. INPUT_LIMIT + length after < length before → answer ≡ 8))
  long_edits_end takes _ (heard_out one is same) code = few_taken INPUT_LIMIT (edits.bytes edits.old) (edits.bytes edits.new) is.heard.answered.bytes (answer ≡ 8) is.heard.answered.taken is.short
  long_edits_end takes _ (too_long one is same) code = any_taken INPUT_LIMIT (edits.bytes edits.old) (edits.bytes edits.new) (answer ≡ 8) code
  long_edits_end takes _ (deck_refused is same other) code = untouched_taken (answer ≡ 8) same
  long_edits_end takes _ (usage no_word took same also unused) code = untouched_taken (answer ≡ 8) also
  long_edits_end takes _ (no_memory one left same other) code = untouched_taken (answer ≡ 8) left
  long_edits_end takes _ (read_fault one (deck_unread rose few unread unused) same) code = untouched_taken (answer ≡ 8) unread
  long_edits_end takes _ (read_fault one (edits_unread is) same) code =
      few_taken INPUT_LIMIT (edits.bytes edits.old) (edits.bytes edits.new) is.heard.answered.bytes
      (answer ≡ 8) is.heard.answered.taken is.short
  long_edits_end takes _ (write_fault (in_answers one is same)) code = absurd (takes is.answered.took.fault)
  long_edits_end takes _ (write_fault (in_refusal is same other)) code = untouched_taken (answer ≡ 8) same
  long_edits_end takes _ (write_fault (in_usage no_word took same also unused)) code = untouched_taken (answer ≡ 8) also
