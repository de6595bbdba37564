use Rattle.pc_flow.proofs.LookLaws.{looks-none, looks-add, looks-most}
use Rattle.pc_flow.proofs.look_laws.looks_add_up.Goals as goal

pub returns-clause-none : goal.returns-clause-none
returns-clause-none c = looks-none

pub returns-clause-joins : goal.returns-clause-joins
returns-clause-joins c = looks-add

pub returns-clause-all : goal.returns-clause-all
returns-clause-all c = looks-most
