-- What a report that was built is delivered as.
use Rattle.std.proofs.Common.{◌≡◌, ℕ, List, Result, Ok, Err, subst}
use Rattle.pc_faults.specs.declared.fault.Fault.{Fault}
use Rattle.pc_project.specs.Project.{Project}
use Rattle.pc_project.specs.declared.shell.status.Status.{Status}
use Rattle.pc_project.specs.inside.shell.Refusing.{Refusal}
use Rattle.pc_project.specs.shell.Sides.{Side, IsUntouched}
use Rattle.pert_cli.specs.Forms.{IsDenial}
use Rattle.pert_cli.specs.Handing.{IsReply}
use Rattle.pert_cli.specs.declared.deliver.NoAnswer.{NoAnswer}
use Rattle.pert_cli.specs.declared.deliver.NoAnswer.TheVariants as why
use Rattle.pert_cli.specs.declared.forms.Form.{Form}
use Rattle.pert_cli.specs.inside.Handing.{Delivers, Replies, denies}

-- a report was delivered whose every text answers the form
pub replies : {X A : Type 0} (form : Form) (project : Project) (IsText : List ℕ → Type 0) (out : Side X) (result : Result A NoAnswer)
    → ((text : List ℕ) → IsText text → IsReply form project text) → Delivers IsText (λ fault. ⊥) out result
    → Delivers (IsReply form project) (IsDenial form project) out result
replies form project IsText out (Ok _) right (text, is, took) = (text, right text is, took)
replies form project IsText out (Err (why.Refused fault)) right delivered = absurd delivered.1
replies form project IsText out (Err why.OutOfMemory) right unused = unused
replies form project IsText out (Err why.WriteFault) right (text, is, took) = (text, right text is, took)

-- the form refuses the project with the fault whose line was written to the error output
pub refuses : {O E : Type 0} (form : Form) (project : Project) (out : Side O) (err : Side E) (status : Status) (told fault : Fault)
    → told ≡ fault → IsDenial form project fault → Refusal told err status → IsUntouched out → Replies form project out err status
refuses form project out err status told fault same denial said unused = denies fault denial (subst (λ (f : Fault). Refusal f err status) same said) unused
