-- How the parts of a run make its outcome.
use Rattle.std.proofs.Common.{List}
use Rattle.std.specs.Prelude.{String}
use Rattle.std.specs.declared.alloc.Global.{Global}
use Rattle.pc_faults.specs.declared.fault.Fault.{Fault}
use Rattle.pc_project.specs.Project.{Project}
use Rattle.pc_project.specs.declared.shell.status.Status.{Status}
use Rattle.pc_project.specs.declared.shell.status.Status.TheVariants.{Done, Refused, OutOfMemory, WriteFault}
use Rattle.pert_cli.specs.declared.forms.Form.{Form}
use Rattle.pert_cli.specs.Words.{AskFor}
use Rattle.pc_project.specs.shell.Sides.{Side, IsUntouched}
use Rattle.pc_project.specs.inside.shell.Refusing.{Refusal}
use Rattle.pert_cli.specs.Handing.{IsReply}
use Rattle.pert_cli.specs.inside.Handing.{Answers, Replies, answers, denies}
use Rattle.pert_cli.specs.FormDeck.{HasProjectFor, HasRefusalFor}
use Rattle.pert_cli.proofs.FormDeckLaws.{left_turned_down, left_with_project}
use Rattle.pert_cli.specs.Outcome.{IsTurnedDown, by_deck, by_form, in_answer, in_fault}
use Rattle.pert_cli.specs.inside.Outcome.{Outcome, done, refused, no_memory, write_fault}

module _ {S O E : Type 0} (words : List (String Global)) (source : Side S) (out : Side O) (err : Side E) (form : Form) (asked : AskFor form words) where
  -- the deck or the form refuses with a fault, and its line was handed to the error output
  after_fault : (fault : Fault) (status : Status) → IsTurnedDown form source fault → IsUntouched out → Refusal fault err status → Outcome words source out err status
  after_fault fault Refused refusal unused took = refused (record { form = form; asked = asked; fault = fault; refusal = refusal; took = took }) unused
  after_fault fault OutOfMemory refusal unused same = no_memory form asked (left_turned_down source form fault refusal) unused same
  after_fault fault WriteFault refusal unused took = write_fault (in_fault (record { form = form; asked = asked; fault = fault; refusal = refusal; took = took }) unused)
  after_fault fault _ refusal unused never = absurd never

  -- the deck is refused, and the line of its fault was handed to the error output
  pub after_refusal : (fault : Fault) (status : Status) → HasRefusalFor form source fault → IsUntouched out → Refusal fault err status → Outcome words source out err status
  after_refusal fault status refusal = after_fault fault status (by_deck refusal)

  -- the deck is accepted, and the form's answer was written to the output
  after_answer : (project : Project) (status : Status) → HasProjectFor form source project → IsUntouched err → Answers (IsReply form project) out status → Outcome words source out err status
  after_answer project Done has unused answered =
      done (record { form = form; asked = asked; text = answered.0; answer = record { project = project; deck = has; reply = answered.1 }; took = answered.2 }) unused
  after_answer project OutOfMemory has unused same = no_memory form asked (left_with_project source form project has) same unused
  after_answer project WriteFault has unused answered =
      write_fault (in_answer (record { form = form; asked = asked; text = answered.0; answer = record { project = project; deck = has; reply = answered.1 }; took = answered.2 }) unused)
  after_answer project _ has unused never = absurd never

  -- the deck is accepted, and the form replied to its project
  pub after_reply : (project : Project) (status : Status) → HasProjectFor form source project → Replies form project out err status → Outcome words source out err status
  after_reply project status has (answers answered unused) = after_answer project status has unused answered
  after_reply project status has (denies fault denial told unused) = after_fault fault status (by_form project has denial) unused told
