-- Lines that a session received on a deck's project, and their answers.
use Rattle.std.specs.Prelude.{◌≡◌, ℕ, ◌<◌, ◌≤◌, List, [], ◌∷◌, ◌++◌, length, take, codes}
use Rattle.std.specs.Io.KnownBytes.{Consumes}
use Rattle.pc_edges.specs.declared.lines.reader.TheConstants.{INPUT_LIMIT}
use Rattle.pc_edges.specs.lines.Lines.{lines_of, whole_lines}
use Rattle.pc_edges.specs.lines.Taken.{AreFirst, IsTakenForLast}
use Rattle.pc_project.specs.Project.{Project}
use Rattle.pc_project.specs.shell.Sides.{Side, HadFault, IsReadToEnd, OfBytes, Took, TookFront}
use Rattle.pc_project.specs.shell.Verdict.{AcceptedBy, IsProjectOf}

-- the line that says which words are asked for
abbrev pub session_usage_text : List ℕ
session_usage_text = codes "usage: pert_whatif DECK" ++ 10 ∷ []

-- no call failed: the count of faults is the one that it was
abbrev pub HadSteadyFaults : {X : Type 0} → Side X → Type 0
HadSteadyFaults s = s.faults s.new ≡ s.faults s.old

-- which text answers lines, one after the other, on a project
abbrev pub Meaning : Type 1
Meaning = Project → List (List ℕ) → List ℕ → Type 0

-- the deck is accepted, and the text answers the lines on its project
pub record AnswersOn (means : Meaning) (deck : List ℕ) (lines : List (List ℕ)) (text : List ℕ) : Type 0 where
  pub project : Project
  pub accepted : IsProjectOf deck project
  pub answers : means project lines text

-- these bytes of the edits were taken, and the output took the answers to lines of them
pub record HasAnswered {C O : Type 0} (answers : List (List ℕ) → List ℕ → Type 0) (edits : Side C) (out : Side O) (lines : List ℕ → List (List ℕ)) : Type 0 where
  pub bytes : List ℕ
  pub taken : Consumes (edits.bytes edits.old) (edits.bytes edits.new) bytes
  pub text : List ℕ
  pub answers_are : answers (lines bytes) text
  pub took : Took out text

-- the output failed after it had taken a prefix of the answers to the first lines of the bytes that were taken: of complete lines,
-- unless the edits were read to their end. No pull of the edits failed, and there was none after the one in which the last of these lines ended
pub record HasAnsweredSome {C O : Type 0} (answers : List (List ℕ) → List ℕ → Type 0) (edits : Side C) (out : Side O) : Type 0 where
  pub bytes : List ℕ
  pub taken : Consumes (edits.bytes edits.old) (edits.bytes edits.new) bytes
  pub lines : List (List ℕ)
  pub others : List (List ℕ)
  pub first : lines_of (take INPUT_LIMIT bytes) ≡ lines ++ others
  pub are_first : AreFirst (edits.bytes edits.new) bytes lines
  pub at_once : IsTakenForLast edits.bytes edits.faults edits.pulls edits.old edits.new lines
  pub no_fault : HadSteadyFaults edits
  pub text : List ℕ
  pub answers_are : answers lines text
  pub took : TookFront out text

-- the text answers the lines on the deck, if its source reports its bytes
abbrev pub AnswersDeck : {D : Type 0} → Meaning → Side D → List (List ℕ) → List ℕ → Type 0
AnswersDeck means deck lines text = OfBytes deck (λ bytes. AnswersOn means bytes lines text)

-- the deck was read to its end and is accepted, and lines of the edits were answered on it
pub record IsHeard {D C O : Type 0} (means : Meaning) (deck : Side D) (edits : Side C) (out : Side O) (lines : List ℕ → List (List ℕ)) : Type 0 where
  pub read : IsReadToEnd deck
  pub accepted : OfBytes deck AcceptedBy
  pub answered : HasAnswered (AnswersDeck means deck) edits out lines

-- the complete lines among the first bytes, as many as edits may have
abbrev pub first_lines : List ℕ → List (List ℕ)
first_lines bytes = whole_lines (take INPUT_LIMIT bytes)

-- the edits were read to their end, without a fault, and are within the limit, and all their lines were answered
pub record IsHeardOut {D C O : Type 0} (means : Meaning) (deck : Side D) (edits : Side C) (out : Side O) : Type 0 where
  pub heard : IsHeard means deck edits out lines_of
  pub end : IsReadToEnd edits
  pub no_fault : HadSteadyFaults edits
  pub short : length heard.answered.bytes ≤ INPUT_LIMIT

-- more bytes of the edits were taken than edits may have, without a fault, and the complete lines among the first of them were answered
pub record IsHeardTooLong {D C O : Type 0} (means : Meaning) (deck : Side D) (edits : Side C) (out : Side O) : Type 0 where
  pub heard : IsHeard means deck edits out first_lines
  pub no_fault : HadSteadyFaults edits
  pub long : INPUT_LIMIT < length heard.answered.bytes

-- reading the edits failed, and the complete lines before that were answered
pub record IsHeardUnread {D C O : Type 0} (means : Meaning) (deck : Side D) (edits : Side C) (out : Side O) : Type 0 where
  pub heard : IsHeard means deck edits out whole_lines
  pub fault : HadFault edits
  pub short : length heard.answered.bytes ≤ INPUT_LIMIT

-- a fault of the output occurred when it had taken a front of the answers to the first lines of the bytes that were
-- taken
pub record IsHeardCut {D C O : Type 0} (means : Meaning) (deck : Side D) (edits : Side C) (out : Side O) : Type 0 where
  pub read : IsReadToEnd deck
  pub accepted : OfBytes deck AcceptedBy
  pub answered : HasAnsweredSome (AnswersDeck means deck) edits out
