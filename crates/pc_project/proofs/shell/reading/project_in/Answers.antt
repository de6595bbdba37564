use Rattle.std.proofs.Common.{◌≤◌, length, arith}
use Rattle.pc_deck.specs.Limits.{longest_deck}
use Rattle.pc_deck.specs.Refusal.{IsCardRefusal}
use Rattle.pc_faults.proofs.FirstLaws.{refused_by}
use Rattle.pc_project.specs.Refusal.{IsRefusedWith}
use Rattle.pc_project.proofs.RefusalLaws.{handed_on}
use Rattle.pc_project.specs.inside.shell.Reading.{IsNoProjectOf, lacking}
use Rattle.pc_project.specs.shell.Verdict.{IsFault, card_refusal, project_refusal}
use Rattle.pc_project.proofs.lemmas.shell.ReadingLaws.{lacks_by}
use Rattle.pc_project.proofs.lemmas.shell.VerdictLaws.{told_of-fault}
use Rattle.pc_project.proofs.shell.reading.project_in.Goals as goal

pub returns-in_err-cards-clause-none : goal.returns-in_err-cards-clause-none
returns-in_err-cards-clause-none c =
    let deck = c.args.bytes.now in
    let error = c.in_err-cards.field-0.0 in
    let short : length deck ≤ longest_deck = omega (arith, c.if-bytes-gt-DECK_LIMIT.false) in
    handed_on (IsNoProjectOf deck) c.from_residual.result (lacking error) c.from_residual.ensures.1
    (lacks_by IsFault deck error (told_of-fault deck)
    (refused_by (IsCardRefusal deck) (IsFault deck) (λ fault refusal. card_refusal short refusal) error c.in_err-cards.ensures.first))

pub returns-in_err-project-clause-none : goal.returns-in_err-project-clause-none
returns-in_err-project-clause-none c =
    let deck = c.args.bytes.now in
    let cards = c.in_ok-cards.cards in
    let error = c.in_err-project.field-0.0 in
    let short : length deck ≤ longest_deck = omega (arith, c.if-bytes-gt-DECK_LIMIT.false) in
    handed_on (IsNoProjectOf deck) c.from_residual-in_err-project.result (lacking error) c.from_residual-in_err-project.ensures.1
    (lacks_by IsFault deck error (told_of-fault deck)
    (refused_by (IsRefusedWith cards) (IsFault deck) (λ fault refused. project_refusal cards short c.in_ok-cards.ensures.accepted refused) error c.in_err-project.ensures.refused))
