use Rattle.pc_cards.specs.declared.sort.Sort.TheVariants.{Tasks}
use Rattle.pc_deck.specs.Refusal.{IsRefusalAs}
use Rattle.pc_faults.proofs.FirstLaws.{refused_by}
use Rattle.pc_project.proofs.RefusalLaws.{handed_on}
use Rattle.pc_project.specs.inside.shell.Reading.{IsNoProjectBy, lacking}
use Rattle.pc_project.proofs.lemmas.shell.ReadingLaws.{lacks_by}
use Rattle.pc_tasks.specs.Refusal.{IsTasksRefusedWith}
use Rattle.pert_cli.specs.Tasks.{IsTasksFault, card_refusal, tasks_refusal}
use Rattle.pert_cli.proofs.VerdictLaws.{told_of-tasks}
use Rattle.pert_cli.proofs.form_deck.drawn_in.Goals as goal

pub returns-in_err-tasks-clause-none : goal.returns-in_err-tasks-clause-none
returns-in_err-tasks-clause-none c =
    let deck = c.args.bytes.now in
    let error = c.in_err-tasks.field-0.0 in
    handed_on (IsNoProjectBy IsTasksFault deck) c.from_residual.result (lacking error) c.from_residual.ensures.1
    (lacks_by IsTasksFault deck error (told_of-tasks deck)
    (refused_by (IsRefusalAs Tasks deck) (IsTasksFault deck) (λ fault refusal. card_refusal c.requires refusal) error c.in_err-tasks.ensures.first))

pub returns-in_err-project-clause-none : goal.returns-in_err-project-clause-none
returns-in_err-project-clause-none c =
    let deck = c.args.bytes.now in
    let tasks = c.in_ok-tasks.tasks in
    let error = c.in_err-project.field-0.0 in
    handed_on (IsNoProjectBy IsTasksFault deck) c.from_residual-in_err-project.result (lacking error) c.from_residual-in_err-project.ensures.1
    (lacks_by IsTasksFault deck error (told_of-tasks deck)
    (refused_by (IsTasksRefusedWith tasks) (IsTasksFault deck) (λ fault refused. tasks_refusal tasks c.requires c.in_ok-tasks.ensures.accepted refused) error c.in_err-project.ensures.refused))
