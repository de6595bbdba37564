use Rattle.pc_project.proofs.MakesLaws.{makes_project, no_faults}
use Rattle.pc_project.proofs.RefusalLaws.{makes_not_refused}
use Rattle.pc_project.proofs.laws.projects_have_no_fault.Goals as goal

pub returns : goal.returns
returns c = record { none = no_faults; makes = makes_project; not_refused = makes_not_refused }
