use Rattle.pert_cli.proofs.form_deck.project_as.Goals as goal

pub returns-in-Plan-clause-project : goal.returns-in-Plan-clause-project
returns-in-Plan-clause-project c = rw c.in-Plan.is c.project_in.ensures.project

pub returns-in-Tasks-clause-project : goal.returns-in-Tasks-clause-project
returns-in-Tasks-clause-project c = rw c.in-Tasks.is c.drawn_in.ensures.project
