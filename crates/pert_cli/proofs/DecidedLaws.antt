-- Without a fault, the words and the deck decide how a run ends, except for out of memory.
use Rattle.std.proofs.Common.{◌≡◌, ◌≢◌, ◌≤◌, ℕ, List, length, ◌⊎◌, inl, inr, arith, subst}
use Rattle.std.specs.Prelude.{String}
use Rattle.std.specs.declared.alloc.Global.{Global}
use Rattle.pc_deck.specs.Limits.{longest_deck}
use Rattle.pc_faults.specs.declared.fault.Fault.{Fault}
use Rattle.pc_project.specs.Project.{Project}
use Rattle.pc_project.specs.declared.shell.status.Status.{Status}
use Rattle.pc_project.specs.inside.shell.Status.{exit_code_of}
use Rattle.pert_cli.specs.declared.forms.Form.{Form}
use Rattle.pert_cli.specs.FormDeck.{AskToRead, IsOwnDeck, ReadsSource, sort_of}
use Rattle.pert_cli.specs.inside.FormDeck.{IsLeftBy}
use Rattle.pert_cli.specs.Words.{AskFor, AskForOne}
use Rattle.pc_project.specs.shell.Sides.{Side, HadNoFault, IsReadToEnd, IsUntouched, OfBytes}
use Rattle.pert_cli.specs.Forms.{IsDenial}
use Rattle.pert_cli.specs.Handing.{IsReply}
use Rattle.pert_cli.specs.Verdicts.{AcceptedAs, IsFaultAs, IsMadeAs, RefusedAs}
use Rattle.pert_cli.specs.Outcome.{IsAcceptedFor, IsAnswer, IsCut, IsRefusedFor, IsTurnedDown, by_deck, by_form, deck_refused, form_refuses, in_answer, in_fault, in_usage}
use Rattle.pert_cli.specs.inside.Outcome.{Outcome, done, refused, usage, no_memory, read_fault, write_fault}
use Rattle.pert_cli.proofs.FormDeckLaws.{left_turned_down, left_with_project, owned_project, owned_refusal, read_project, read_refusal, reads_not_owned}
use Rattle.pert_cli.proofs.OneFormLaws.{of_form}
use Rattle.pert_cli.proofs.VerdictLaws.{accepted_not_refused, accepts_as, long_as, one_project_as}
use Rattle.pc_project.proofs.lemmas.shell.ReadingLaws.{refusal_has, refusal_reads}
use Rattle.pc_project.proofs.lemmas.shell.SideLaws.{from_both, of_any, of_one}

-- ---- what a form's deck is

module _ (form : Form) where
  -- a deck that has a fault is not accepted for the form
  fault_not_accepted : (fault : Fault) (bytes : List ℕ) → IsFaultAs (sort_of form) bytes fault → IsAcceptedFor form bytes → ⊥
  fault_not_accepted fault bytes is accepted =
      accepted_not_refused (sort_of form) bytes (accepts_as (sort_of form) bytes accepted.project accepted.accepted) (fault, is)

  -- nor is one whose project the form refuses
  denial_not_accepted : (project : Project) (fault : Fault) → IsDenial form project fault → (bytes : List ℕ) → IsMadeAs (sort_of form) bytes project → IsAcceptedFor form bytes → ⊥
  denial_not_accepted project fault denial bytes is accepted =
      accepted.fits fault (subst (λ p. IsDenial form p fault) (one_project_as (sort_of form) bytes project accepted.project is accepted.accepted) denial)

  -- a deck that has an answer is not refused for it
  answer_not_refused : (project : Project) (text : List ℕ) → IsReply form project text → (bytes : List ℕ) → IsMadeAs (sort_of form) bytes project → IsRefusedFor form bytes → ⊥
  answer_not_refused project text reply bytes is (deck_refused faulty) =
      accepted_not_refused (sort_of form) bytes (accepts_as (sort_of form) bytes project is) faulty
  answer_not_refused project text reply bytes is (form_refuses other also fault denial) =
      reply.fits fault (subst (λ p. IsDenial form p fault) (one_project_as (sort_of form) bytes other project also is) denial)

-- the deck of a form that reads the source
module _ {S : Type 0} (source : Side S) (form : Form) (reads : ReadsSource form) where
  -- what it has where it is refused
  refusal_is : (fault : Fault) → IsTurnedDown form source fault →
      OfBytes source (λ bytes. IsFaultAs (sort_of form) bytes fault)
      ⊎ ((project : Project) × OfBytes source (λ bytes. IsMadeAs (sort_of form) bytes project) × IsDenial form project fault)
  refusal_is fault (by_deck refusal) =
      inl (refusal_has (IsFaultAs (sort_of form)) source (long_as (sort_of form)) fault (read_refusal source form fault reads refusal))
  refusal_is fault (by_form project has denial) = inr (project, (read_project source form project reads has).is, denial)

  -- it was read to its end, where it is not too long and refused
  turned_down_is_read : (fault : Fault) → IsTurnedDown form source fault → OfBytes source (λ bytes. length bytes ≤ longest_deck → IsReadToEnd source)
  turned_down_is_read fault (by_deck refusal) =
      refusal_reads (IsFaultAs (sort_of form)) source fault (read_refusal source form fault reads refusal)
  turned_down_is_read fault (by_form project has denial) =
      let mine = read_project source form project reads has in
      of_one (source.bytes source.old) _ _ (λ bytes is short. mine.read) mine.is

  -- it is not accepted, where it or the form refuses
  turned_down_not_accepted : (fault : Fault) (R : List ℕ → Type 0) → IsTurnedDown form source fault → OfBytes source (λ bytes. IsAcceptedFor form bytes → R bytes)
  turned_down_not_accepted fault R refusal = elim (refusal_is fault refusal) [
    | inl has ↦ from_both (source.bytes source.old) (λ bytes. IsFaultAs (sort_of form) bytes fault) (IsAcceptedFor form) R (fault_not_accepted form fault) has
    | inr denied ↦ from_both (source.bytes source.old) (λ bytes. IsMadeAs (sort_of form) bytes denied.0) (IsAcceptedFor form) R (denial_not_accepted form denied.0 fault denied.2) denied.1
  ]

  -- it is not refused if there is an answer
  answered_not_refused : (text : List ℕ) (R : List ℕ → Type 0) → IsAnswer form source text → OfBytes source (λ bytes. IsRefusedFor form bytes → R bytes)
  answered_not_refused text R is =
      from_both (source.bytes source.old) (λ bytes. IsMadeAs (sort_of form) bytes is.project) (IsRefusedFor form) R
      (answer_not_refused form is.project text is.reply) (read_project source form is.project reads is.deck).is

  -- and it is accepted, where there is a project
  project_accepts : (project : Project) (answer : ℕ) → OfBytes source (λ bytes. IsMadeAs (sort_of form) bytes project)
      → OfBytes source (λ bytes. (RefusedAs (sort_of form) bytes → ⊥) → AcceptedAs (sort_of form) bytes ⊎ (answer ≡ 3))
  project_accepts project answer is =
      of_one (source.bytes source.old) (λ bytes. IsMadeAs (sort_of form) bytes project) _ (λ bytes made never. inl (accepts_as (sort_of form) bytes project made)) is

  -- so it has a fault or is accepted, where it is turned down
  turned_down_accepts : (fault : Fault) (answer : ℕ) → IsTurnedDown form source fault
      → OfBytes source (λ bytes. (RefusedAs (sort_of form) bytes → ⊥) → AcceptedAs (sort_of form) bytes ⊎ (answer ≡ 3))
  turned_down_accepts fault answer refusal = elim (refusal_is fault refusal) [
    | inl has ↦ of_one (source.bytes source.old) (λ bytes. IsFaultAs (sort_of form) bytes fault) _ (λ bytes is never. absurd (never (fault, is))) has
    | inr denied ↦ project_accepts denied.0 answer denied.1
  ]

-- the deck that a form has of its own
module _ {S : Type 0} (source : Side S) (form : Form) (deck : List ℕ) (own : IsOwnDeck form deck) where
  -- is not accepted, where it or the form refuses
  own_not_accepted : (fault : Fault) → IsTurnedDown form source fault → IsAcceptedFor form deck → ⊥
  own_not_accepted fault (by_deck refusal) accepted = fault_not_accepted form fault deck (owned_refusal source form deck fault own refusal) accepted
  own_not_accepted fault (by_form project has denial) accepted =
      denial_not_accepted form project fault denial deck (owned_project source form deck project own has) accepted

  -- nor refused if there is an answer
  own_not_refused : (text : List ℕ) → IsAnswer form source text → IsRefusedFor form deck → ⊥
  own_not_refused text is faulty = answer_not_refused form is.project text is.reply deck (owned_project source form deck is.project own is.deck) faulty

-- ---- how a run for a form ends

module _ {S O E : Type 0} (words : List (String Global)) (source : Side S) (out : Side O) (err : Side E) (answer : ℕ) (form : Form) (asked : AskFor form words) where
  -- what was found for a form for which the words ask was found for this one
  its_refusal : (other : Form) (fault : Fault) → AskFor other words → IsTurnedDown other source fault → IsTurnedDown form source fault
  its_refusal other fault also refusal = of_form words (λ f. IsTurnedDown f source fault) form other asked also refusal

  its_answer : (other : Form) (text : List ℕ) → AskFor other words → IsAnswer other source text → IsAnswer form source text
  its_answer other text also is = of_form words (λ f. IsAnswer f source text) form other asked also is

  module _ (reads : ReadsSource form) where
    -- a deck of the source that is not refused is accepted
    pub not_refused_accepts : HadNoFault source → (status : Status) → Outcome words source out err status → answer ≡ exit_code_of status
        → OfBytes source (λ bytes. (RefusedAs (sort_of form) bytes → ⊥) → AcceptedAs (sort_of form) bytes ⊎ (answer ≡ 3))
    not_refused_accepts whole _ (done is same) is_code =
        let mine = its_answer is.form is.text is.asked is.answer in
        project_accepts source form reads mine.project answer (read_project source form mine.project reads mine.deck).is
    not_refused_accepts whole _ (refused is same) is_code = turned_down_accepts source form reads is.fault answer (its_refusal is.form is.fault is.asked is.refusal)
    not_refused_accepts whole _ (usage no_form took same also) is_code = absurd (no_form form asked)
    not_refused_accepts whole _ (no_memory other how left same also) is_code = of_any (source.bytes source.old) _ (λ bytes never. inr is_code)
    not_refused_accepts whole _ (read_fault other rose few same also) is_code = absurd (whole rose)
    not_refused_accepts whole _ (write_fault (in_answer is same)) is_code =
        let mine = its_answer is.form is.text is.asked is.answer in
        project_accepts source form reads mine.project answer (read_project source form mine.project reads mine.deck).is
    not_refused_accepts whole _ (write_fault (in_fault is same)) is_code = turned_down_accepts source form reads is.fault answer (its_refusal is.form is.fault is.asked is.refusal)
    not_refused_accepts whole _ (write_fault (in_usage no_form took same also)) is_code = absurd (no_form form asked)

    -- an accepted deck of the source is answered
    pub accepted_ends : (status : Status) → Outcome words source out err status → answer ≡ exit_code_of status →
        OfBytes source (λ bytes. IsAcceptedFor form bytes → HadNoFault source → HadNoFault out → (answer ≡ 0) ⊎ (answer ≡ 3))
    accepted_ends _ (done is same) is_code = of_any (source.bytes source.old) _ (λ bytes accepted whole takes. inl is_code)
    accepted_ends _ (refused is same) is_code = turned_down_not_accepted source form reads is.fault _ (its_refusal is.form is.fault is.asked is.refusal)
    accepted_ends _ (usage no_form took same also) is_code = absurd (no_form form asked)
    accepted_ends _ (no_memory other how left same also) is_code = of_any (source.bytes source.old) _ (λ bytes accepted whole takes. inr is_code)
    accepted_ends _ (read_fault other rose few same also) is_code = of_any (source.bytes source.old) _ (λ bytes accepted whole takes. absurd (whole rose))
    accepted_ends _ (write_fault (in_answer is same)) is_code = of_any (source.bytes source.old) _ (λ bytes accepted whole takes. absurd (takes is.took.fault))
    accepted_ends _ (write_fault (in_fault is same)) is_code = turned_down_not_accepted source form reads is.fault _ (its_refusal is.form is.fault is.asked is.refusal)
    accepted_ends _ (write_fault (in_usage no_form took same also)) is_code = absurd (no_form form asked)

    -- a refused one is refused
    pub refused_ends : (status : Status) → Outcome words source out err status → answer ≡ exit_code_of status →
        OfBytes source (λ bytes. IsRefusedFor form bytes → HadNoFault source → HadNoFault err → (answer ≡ 1) ⊎ (answer ≡ 3))
    refused_ends _ (done is same) is_code = answered_not_refused source form reads is.text _ (its_answer is.form is.text is.asked is.answer)
    refused_ends _ (refused is same) is_code = of_any (source.bytes source.old) _ (λ bytes faulty whole takes. inl is_code)
    refused_ends _ (usage no_form took same also) is_code = absurd (no_form form asked)
    refused_ends _ (no_memory other how left same also) is_code = of_any (source.bytes source.old) _ (λ bytes faulty whole takes. inr is_code)
    refused_ends _ (read_fault other rose few same also) is_code = of_any (source.bytes source.old) _ (λ bytes faulty whole takes. absurd (whole rose))
    refused_ends _ (write_fault (in_answer is same)) is_code = answered_not_refused source form reads is.text _ (its_answer is.form is.text is.asked is.answer)
    refused_ends _ (write_fault (in_fault is same)) is_code = of_any (source.bytes source.old) _ (λ bytes faulty whole takes. absurd (takes is.took.fault))
    refused_ends _ (write_fault (in_usage no_form took same also)) is_code = absurd (no_form form asked)

    -- where it ended with 1, a deck that is not too long was read to its end
    pub one_is_read : (status : Status) → Outcome words source out err status → answer ≡ exit_code_of status → answer ≡ 1 → OfBytes source (λ bytes. length bytes ≤ longest_deck → IsReadToEnd source)
    one_is_read _ (done is same) is_code one = absurd (omega (arith, is_code, one))
    one_is_read _ (refused is same) is_code one = turned_down_is_read source form reads is.fault (its_refusal is.form is.fault is.asked is.refusal)
    one_is_read _ (usage no_form took same also) is_code one = absurd (omega (arith, is_code, one))
    one_is_read _ (no_memory other how left same also) is_code one = absurd (omega (arith, is_code, one))
    one_is_read _ (read_fault other rose few same also) is_code one = absurd (omega (arith, is_code, one))
    one_is_read _ (write_fault cut) is_code one = absurd (omega (arith, is_code, one))

  module _ (deck : List ℕ) (own : IsOwnDeck form deck) where
    -- the words don't ask for a form that reads the source
    reads_none : AskToRead words → ⊥
    reads_none other = reads_not_owned form deck (of_form words ReadsSource form other.0 asked other.1 other.2) own

    -- a form with a deck of its own does not change the source
    pub own_unread : (status : Status) → Outcome words source out err status → IsUntouched source
    own_unread _ (done is same) = let mine = its_answer is.form is.text is.asked is.answer in left_with_project source form mine.project mine.deck deck own
    own_unread _ (refused is same) = left_turned_down source form is.fault (its_refusal is.form is.fault is.asked is.refusal) deck own
    own_unread _ (usage no_form took same also) = same
    own_unread _ (no_memory other how left same also) = of_form words (λ f. IsLeftBy f source) form other asked how left deck own
    own_unread _ (read_fault other rose few same also) = absurd (reads_none other)
    own_unread _ (write_fault (in_answer is same)) = let mine = its_answer is.form is.text is.asked is.answer in left_with_project source form mine.project mine.deck deck own
    own_unread _ (write_fault (in_fault is same)) = left_turned_down source form is.fault (its_refusal is.form is.fault is.asked is.refusal) deck own
    own_unread _ (write_fault (in_usage no_form took same also)) = same

    -- an accepted deck of its own is answered
    pub own_accepted_ends : (status : Status) → Outcome words source out err status → answer ≡ exit_code_of status → IsAcceptedFor form deck → HadNoFault out → (answer ≡ 0) ⊎ (answer ≡ 3)
    own_accepted_ends _ (done is same) is_code accepted takes = inl is_code
    own_accepted_ends _ (refused is same) is_code accepted takes = absurd (own_not_accepted source form deck own is.fault (its_refusal is.form is.fault is.asked is.refusal) accepted)
    own_accepted_ends _ (usage no_form took same also) is_code accepted takes = absurd (no_form form asked)
    own_accepted_ends _ (no_memory other how left same also) is_code accepted takes = inr is_code
    own_accepted_ends _ (read_fault other rose few same also) is_code accepted takes = absurd (reads_none other)
    own_accepted_ends _ (write_fault (in_answer is same)) is_code accepted takes = absurd (takes is.took.fault)
    own_accepted_ends _ (write_fault (in_fault is same)) is_code accepted takes = absurd (own_not_accepted source form deck own is.fault (its_refusal is.form is.fault is.asked is.refusal) accepted)
    own_accepted_ends _ (write_fault (in_usage no_form took same also)) is_code accepted takes = absurd (no_form form asked)

    -- a refused one is refused
    pub own_refused_ends : (status : Status) → Outcome words source out err status → answer ≡ exit_code_of status → IsRefusedFor form deck → HadNoFault err → (answer ≡ 1) ⊎ (answer ≡ 3)
    own_refused_ends _ (done is same) is_code faulty takes = absurd (own_not_refused source form deck own is.text (its_answer is.form is.text is.asked is.answer) faulty)
    own_refused_ends _ (refused is same) is_code faulty takes = inl is_code
    own_refused_ends _ (usage no_form took same also) is_code faulty takes = absurd (no_form form asked)
    own_refused_ends _ (no_memory other how left same also) is_code faulty takes = inr is_code
    own_refused_ends _ (read_fault other rose few same also) is_code faulty takes = absurd (reads_none other)
    own_refused_ends _ (write_fault (in_answer is same)) is_code faulty takes = absurd (own_not_refused source form deck own is.text (its_answer is.form is.text is.asked is.answer) faulty)
    own_refused_ends _ (write_fault (in_fault is same)) is_code faulty takes = absurd (takes is.took.fault)
    own_refused_ends _ (write_fault (in_usage no_form took same also)) is_code faulty takes = absurd (no_form form asked)

-- a run that ended with 5 was cut
pub five_is_cut : {S O E : Type 0} (words : List (String Global)) (source : Side S) (out : Side O) (err : Side E) (answer : ℕ)
    (status : Status) → Outcome words source out err status → answer ≡ exit_code_of status → answer ≡ 5 → IsCut words source out err
five_is_cut words source out err answer _ (done is same) is_code five = absurd (omega (arith, is_code, five))
five_is_cut words source out err answer _ (refused is same) is_code five = absurd (omega (arith, is_code, five))
five_is_cut words source out err answer _ (usage no_form took same also) is_code five = absurd (omega (arith, is_code, five))
five_is_cut words source out err answer _ (no_memory form how left same also) is_code five = absurd (omega (arith, is_code, five))
five_is_cut words source out err answer _ (read_fault form rose few same also) is_code five = absurd (omega (arith, is_code, five))
five_is_cut words source out err answer _ (write_fault cut) is_code five = cut

-- a run that ended with another number than 2 and 5 was asked for a form
pub ended_asked : {S O E : Type 0} (words : List (String Global)) (source : Side S) (out : Side O) (err : Side E) (answer : ℕ)
    (status : Status) → Outcome words source out err status → answer ≡ exit_code_of status → answer ≢ 2 → answer ≢ 5 → AskForOne words
ended_asked words source out err answer _ (done is same) is_code no_usage no_cut = (is.form, is.asked)
ended_asked words source out err answer _ (refused is same) is_code no_usage no_cut = (is.form, is.asked)
ended_asked words source out err answer _ (usage no_form took same also) is_code no_usage no_cut = absurd (no_usage is_code)
ended_asked words source out err answer _ (no_memory form how left same also) is_code no_usage no_cut = (form, how)
ended_asked words source out err answer _ (read_fault form rose few same also) is_code no_usage no_cut = (form.0, form.1)
ended_asked words source out err answer _ (write_fault cut) is_code no_usage no_cut = absurd (no_cut is_code)

-- a run that ended with 4 was asked for a form that reads the source
pub four_is_read : {S O E : Type 0} (words : List (String Global)) (source : Side S) (out : Side O) (err : Side E) (answer : ℕ)
    (status : Status) → Outcome words source out err status → answer ≡ exit_code_of status → answer ≡ 4 → AskToRead words
four_is_read words source out err answer _ (done is same) is_code four = absurd (omega (arith, is_code, four))
four_is_read words source out err answer _ (refused is same) is_code four = absurd (omega (arith, is_code, four))
four_is_read words source out err answer _ (usage no_form took same also) is_code four = absurd (omega (arith, is_code, four))
four_is_read words source out err answer _ (no_memory form how left same also) is_code four = absurd (omega (arith, is_code, four))
four_is_read words source out err answer _ (read_fault form rose few same also) is_code four = form
four_is_read words source out err answer _ (write_fault cut) is_code four = absurd (omega (arith, is_code, four))
