-- Which texts reply to a form.
use Rattle.std.specs.Prelude.{ℕ, List}
use Rattle.pc_faults.specs.declared.fault.Fault.{Fault}
use Rattle.pc_project.specs.Project.{Project}
use Rattle.pert_cli.specs.declared.forms.Form.{Form}
use Rattle.pert_cli.specs.Forms.{IsDenial, IsTextOf}

-- the text answers the form for the project, and the form does not refuse the project
pub record IsReply (form : Form) (project : Project) (text : List ℕ) : Type 0 where
  pub right : IsTextOf form project text
  pub fits : (fault : Fault) → IsDenial form project fault → ⊥
