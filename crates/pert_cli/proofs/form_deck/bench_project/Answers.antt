use Rattle.pert_cli.proofs.form_deck.bench_project.Goals as goal

pub returns-clause-project : goal.returns-clause-project
returns-clause-project c = rw (c.deref.ensures.value, c.in_ok-deck.ensures) at c.project_in.ensures.project

pub returns-clause-none : goal.returns-clause-none
returns-clause-none c = rw (c.deref.ensures.value, c.in_ok-deck.ensures) at c.project_in.ensures.none
