-- What a run means and has done, by its status.
use Rattle.std.specs.Prelude.{ℕ, List, String}
use Rattle.std.specs.declared.alloc.Global.{Global}
use Rattle.pc_faults.specs.declared.fault.Fault.{Fault}
use Rattle.pc_faults.specs.FaultText.{fault_text}
use Rattle.pc_project.specs.Project.{Project}
use Rattle.pert_cli.specs.declared.forms.Form.{Form}
use Rattle.pert_cli.specs.Words.{AskFor, AskForNone, usage_text}
use Rattle.pc_project.specs.shell.Sides.{Side, IsUntouched, Took, TookFront}
use Rattle.pert_cli.specs.Verdicts.{IsMadeAs, RefusedAs}
use Rattle.pert_cli.specs.FormDeck.{HasProjectFor, HasRefusalFor, sort_of}
use Rattle.pert_cli.specs.Forms.{IsDenial}
use Rattle.pert_cli.specs.Handing.{IsReply}

-- the form's deck was read to its end and is accepted, the form does not refuse its project, and the text answers the form for it
pub record IsAnswer {S : Type 0} (form : Form) (source : Side S) (text : List ℕ) : Type 0 where
  pub project : Project
  pub deck : HasProjectFor form source project
  pub reply : IsReply form project text

-- the form's deck is refused with the fault; or it was read to its end and is accepted, and the form refuses its project with the
-- fault
pub data IsTurnedDown {S : Type 0} (form : Form) (source : Side S) (fault : Fault) : Type 0 where
  by_deck : HasRefusalFor form source fault → IsTurnedDown form source fault
  by_form : (project : Project) → HasProjectFor form source project → IsDenial form project fault → IsTurnedDown form source fault

-- the words ask for a form, and the output took its answer
pub record IsDone {S O : Type 0} (words : List (String Global)) (source : Side S) (out : Side O) : Type 0 where
  pub form : Form
  pub asked : AskFor form words
  pub text : List ℕ
  pub answer : IsAnswer form source text
  pub took : Took out text

-- the words ask for a form, the deck or the form refuses with a fault, and the error output took the line of the fault
pub record IsRefused {S E : Type 0} (words : List (String Global)) (source : Side S) (err : Side E) : Type 0 where
  pub form : Form
  pub asked : AskFor form words
  pub fault : Fault
  pub refusal : IsTurnedDown form source fault
  pub took : Took err (fault_text fault)

-- the words ask for a form, and a fault of the output occurred when it had taken a front of the answer
pub record IsAnswerCut {S O : Type 0} (words : List (String Global)) (source : Side S) (out : Side O) : Type 0 where
  pub form : Form
  pub asked : AskFor form words
  pub text : List ℕ
  pub answer : IsAnswer form source text
  pub took : TookFront out text

-- the words ask for a form, the deck or the form refuses with a fault, and a fault of the error output came when it had
-- taken a front of the line
pub record IsFaultCut {S E : Type 0} (words : List (String Global)) (source : Side S) (err : Side E) : Type 0 where
  pub form : Form
  pub asked : AskFor form words
  pub fault : Fault
  pub refusal : IsTurnedDown form source fault
  pub took : TookFront err (fault_text fault)

-- where a write fault occurred: in the answer, in the line of a fault, or in the usage line. The other output is
-- unchanged
pub data IsCut {S O E : Type 0} (words : List (String Global)) (source : Side S) (out : Side O) (err : Side E) : Type 0 where
  in_answer : IsAnswerCut words source out → IsUntouched err → IsCut words source out err
  in_fault : IsFaultCut words source err → IsUntouched out → IsCut words source out err
  in_usage : AskForNone words → TookFront err usage_text → IsUntouched source → IsUntouched out → IsCut words source out err

-- the deck is accepted, and the form does not refuse its project
pub record IsAcceptedFor (form : Form) (bytes : List ℕ) : Type 0 where
  pub project : Project
  pub accepted : IsMadeAs (sort_of form) bytes project
  pub fits : (fault : Fault) → IsDenial form project fault → ⊥

-- the deck has a fault; or it is accepted, and the form refuses its project
pub data IsRefusedFor (form : Form) (bytes : List ℕ) : Type 0 where
  deck_refused : RefusedAs (sort_of form) bytes → IsRefusedFor form bytes
  form_refuses : (project : Project) → IsMadeAs (sort_of form) bytes project → (fault : Fault) → IsDenial form project fault → IsRefusedFor form bytes
