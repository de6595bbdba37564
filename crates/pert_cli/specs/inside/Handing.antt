-- What handing a text to an output leaves, by the status that it ends with.
-- Here is what no clause of a top call and no law reaches.
use Rattle.std.specs.Prelude.{ℕ, ⊤, List, Result, Ok, Err}
use Rattle.pc_faults.specs.declared.fault.Fault.{Fault}
use Rattle.pc_faults.specs.inside.FaultText.{IsTold}
use Rattle.pc_project.specs.Project.{Project}
use Rattle.pert_cli.specs.declared.deliver.NoAnswer.{NoAnswer}
use Rattle.pert_cli.specs.declared.deliver.NoAnswer.TheVariants as why
use Rattle.pert_cli.specs.declared.forms.Form.{Form}
use Rattle.pc_project.specs.declared.shell.status.Status.{Status}
use Rattle.pc_project.specs.declared.shell.status.Status.TheVariants.{Done, OutOfMemory, WriteFault}
use Rattle.pert_cli.specs.Forms.{IsDenial}
use Rattle.pc_project.specs.inside.shell.Refusing.{Refusal}
use Rattle.pc_project.specs.shell.Sides.{Side, IsUntouched, Took, TookFront}
use Rattle.pert_cli.specs.Handing.{IsReply}

-- why there is no report: the form refuses the project with a fault; or memory ran out, which may happen at any time
abbrev pub IsNoReport : (Fault → Type 0) → NoAnswer → Type 0
IsNoReport IsDenied (why.Refused fault) = IsTold fault × IsDenied fault
IsNoReport IsDenied why.OutOfMemory = ⊤
IsNoReport IsDenied why.WriteFault = ⊥

-- how a report is delivered: a text that answers was written, or a fault of the sink occurred in it; or the form
-- refuses the project, or memory ran out, and nothing was written
abbrev pub Delivers : {X A : Type 0} → (List ℕ → Type 0) → (Fault → Type 0) → Side X → Result A NoAnswer → Type 0
Delivers IsText IsDenied out (Ok _) = (text : List ℕ) × IsText text × Took out text
Delivers IsText IsDenied out (Err (why.Refused fault)) = IsTold fault × IsDenied fault × IsUntouched out
Delivers IsText IsDenied out (Err why.OutOfMemory) = IsUntouched out
Delivers IsText IsDenied out (Err why.WriteFault) = (text : List ℕ) × IsText text × TookFront out text

-- a text that answers was written, or memory ran out for it, or a fault of the sink occurred in it
abbrev pub Answers : {X : Type 0} → (List ℕ → Type 0) → Side X → Status → Type 0
Answers IsText out Done = (text : List ℕ) × IsText text × Took out text
Answers IsText out OutOfMemory = IsUntouched out
Answers IsText out WriteFault = (text : List ℕ) × IsText text × TookFront out text
Answers IsText out _ = ⊥

-- how a form replied to a project: its answer was written to the output, or the line of the fault with which it refuses
-- the project to the error output; the other output is unchanged
pub data Replies {O E : Type 0} (form : Form) (project : Project) (out : Side O) (err : Side E) (status : Status) : Type 0 where
  answers : Answers (IsReply form project) out status → IsUntouched err → Replies form project out err status
  denies : (fault : Fault) → IsDenial form project fault → Refusal fault err status → IsUntouched out → Replies form project out err status
