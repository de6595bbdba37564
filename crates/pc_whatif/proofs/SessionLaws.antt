-- How the parts of a session make its outcome.
use Rattle.std.proofs.Common.{◌≡◌, ℕ, List, Option, Result, Ok, Err, sym, subst}
use Rattle.std.specs.Prelude.{IfSome, String}
use Rattle.std.specs.declared.alloc.Global.{Global}
use Rattle.pc_project.specs.Project.{Project}
use Rattle.pc_edges.specs.declared.lines.talking.TalkError.{TalkError}
use Rattle.pc_edges.specs.declared.lines.talking.TalkError.TheVariants as talk
use Rattle.pc_edges.specs.inside.lines.Talk.{Answered, Ends}
use Rattle.pc_edges.specs.lines.Taken.{IsTakenWithin}
use Rattle.pc_edges.proofs.lemmas.lines.TalkLaws.{taken_none}
use Rattle.pc_project.specs.declared.shell.status.Status.{Status}
use Rattle.pc_project.specs.shell.OneWord.{IsOneWord}
use Rattle.pc_project.specs.inside.shell.OneWord.{EndsWithout}
use Rattle.pc_project.specs.inside.shell.OneWord as ends
use Rattle.pc_project.specs.inside.shell.Reading.{HasProject}
use Rattle.pc_project.specs.shell.Sides.{Side, side, pulled_side, IsUntouched}
use Rattle.pc_project.specs.shell.Verdict.{AcceptedBy, IsProjectOf}
use Rattle.pc_project.proofs.lemmas.shell.SideLaws.{of_one}
use Rattle.pc_whatif.specs.Heard.{Meaning, AnswersOn, HasAnswered, IsHeard, session_usage_text}
use Rattle.pc_whatif.specs.inside.Hearing.{Hearing, all, passed, unread, cut, no_room, talk_status}
use Rattle.pc_whatif.specs.SessionOutcome.{deck_unread, edits_unread, in_answers, in_refusal, in_usage}
use Rattle.pc_whatif.specs.inside.SessionOutcome.{SessionOutcome, heard_out, too_long, deck_refused, usage, no_memory, read_fault, write_fault}

-- ---- the result of a session

module _ {T C O : Type 0} (says : T → List ℕ → List ℕ → T → Type 0) (left : C → Option (List ℕ)) (source_faults : C → ℕ) (pulls : C → Option ℕ)
    (taken : O → Option (List ℕ)) (sink_faults : O → ℕ) (talker talker_after : T) (source source_after : C) (out out_after : O)
    (answers : List (List ℕ) → List ℕ → Type 0) (mean : (lines : List (List ℕ)) (text : List ℕ) → Answered says talker lines text talker_after → answers lines text) where
  pub heard : (result : Result (Unit {0}) TalkError) → Ends says left source_faults pulls taken sink_faults talker talker_after source source_after out out_after result
      → Hearing answers (pulled_side left source_faults pulls source source_after) (side taken sink_faults out out_after) (talk_status result)
  heard (Ok done) h = all (record { bytes = h.bytes; taken = h.read; text = h.text; answers_are = mean _ _ h.answered; took = h.wrote }) h.end h.no_fault h.short
  heard (Err talk.ReadFault) h = unread (record { bytes = h.bytes; taken = h.read; text = h.text; answers_are = mean _ _ h.answered; took = h.wrote }) h.fault h.short
  heard (Err talk.WriteFault) h = cut (record {
    bytes = h.bytes;
    taken = h.read;
    lines = h.lines;
    others = h.others;
    first = h.first;
    are_first = h.are_first;
    at_once = h.at_once;
    no_fault = h.no_fault;
    text = h.text;
    answers_are = mean _ _ h.answered;
    took = h.stopped;
  })
  heard (Err talk.TooLong) h = passed (record { bytes = h.bytes; taken = h.read; text = h.text; answers_are = mean _ _ h.answered; took = h.wrote }) h.no_fault h.long

-- ---- outcomes

-- the deck of a project is accepted
accepted_of : (left : Option (List ℕ)) (project : Project) → IfSome left (λ bytes. IsProjectOf bytes project) → IfSome left AcceptedBy
accepted_of left project is = of_one left (λ bytes. IsProjectOf bytes project) AcceptedBy (λ bytes p. (p.deck, p.accepted)) is

-- lines that are answered on a project are answered on its deck
answers_on : (means : Meaning) (left : Option (List ℕ)) (project : Project) (lines : List (List ℕ)) (text : List ℕ) → IfSome left (λ bytes. IsProjectOf bytes project)
    → means project lines text → IfSome left (λ bytes. AnswersOn means bytes lines text)
answers_on means left project lines text is answers =
    of_one left (λ bytes. IsProjectOf bytes project) _ (λ bytes p. record { project = project; accepted = p; answers = answers }) is

module _ {D C O E : Type 0} (means : Meaning) (words : List (String Global)) (deck : Side D) (edits : Side C) (out : Side O) (err : Side E) where
  abbrev heard_on : (project : Project) (lines : List ℕ → List (List ℕ)) → HasProject deck project → HasAnswered (means project) edits out lines → IsHeard means deck edits out lines
  heard_on project lines has h = record {
    read = has.read;
    accepted = accepted_of (deck.bytes deck.old) project has.is;
    answered = record {
      bytes = h.bytes;
      taken = h.taken;
      text = h.text;
      answers_are = answers_on means (deck.bytes deck.old) project (lines h.bytes) h.text has.is h.answers_are;
      took = h.took;
    };
  }

  -- the deck is accepted, and lines were answered on its project
  pub after_hearing : (project : Project) (status : Status) → IsOneWord words → HasProject deck project → IsUntouched err → Hearing (means project) edits out status
      → SessionOutcome means words deck edits out err status
  after_hearing project _ asked has same (all h end no_fault short) = heard_out asked (record { heard = heard_on project _ has h; end = end; no_fault = no_fault; short = short }) same
  after_hearing project _ asked has same (passed h no_fault long) = too_long asked (record { heard = heard_on project _ has h; no_fault = no_fault; long = long }) same
  after_hearing project _ asked has same (unread h fault short) = read_fault asked (edits_unread (record { heard = heard_on project _ has h; fault = fault; short = short })) same
  after_hearing project _ asked has same (cut h) = write_fault (in_answers asked (record {
    read = has.read;
    accepted = accepted_of (deck.bytes deck.old) project has.is;
    answered = record {
      bytes = h.bytes;
      taken = h.taken;
      lines = h.lines;
      others = h.others;
      first = h.first;
      are_first = h.are_first;
      at_once = h.at_once;
      no_fault = h.no_fault;
      text = h.text;
      answers_are = answers_on means (deck.bytes deck.old) project h.lines h.text has.is h.answers_are;
      took = h.took;
    };
  }) same)
  after_hearing project _ asked has same (no_room unread_edits unused) = no_memory asked unread_edits unused same

  -- there is no project, and the edits and the output were left alone
  pub after_no_project : (status : Status) → EndsWithout words session_usage_text deck err status → IsUntouched edits → IsUntouched out → SessionOutcome means words deck edits out err status
  after_no_project _ (ends.deck_refused is) unread_edits unused = deck_refused is unread_edits unused
  after_no_project _ (ends.not_one_word no_word took same) unread_edits unused = usage no_word took same unread_edits unused
  after_no_project _ (ends.no_memory asked same) unread_edits unused = no_memory asked unread_edits unused same
  after_no_project _ (ends.deck_unread asked rose few same) unread_edits unused = read_fault asked (deck_unread rose few unread_edits unused) same
  after_no_project _ (ends.refusal_cut is) unread_edits unused = write_fault (in_refusal is unread_edits unused)
  after_no_project _ (ends.usage_cut no_word took same) unread_edits unused = write_fault (in_usage no_word took same unread_edits unused)

-- from edits that are left alone nothing is taken
pub none_taken_of : {C : Type 0} (left : C → Option (List ℕ)) (faults : C → ℕ) (pulls : C → Option ℕ) (old new : C) → new ≡ old → IsTakenWithin left faults pulls old new
none_taken_of left faults pulls old new same = subst (IsTakenWithin left faults pulls old) (sym same) (taken_none left faults pulls old).taken
