use Rattle.std.proofs.Common.{sym, subst}
use Rattle.pc_faults.specs.First.{IsFirstFault}
use Rattle.pc_faults.specs.declared.fault.DeckError.{DeckError}
use Rattle.pc_faults.specs.declared.fault.DeckError.TheVariants.{Fault, OutOfMemory}
use Rattle.pc_faults.specs.inside.First.{Refuses}
use Rattle.pc_cards.specs.declared.sort.Sort.TheVariants.{Plan}
use Rattle.pc_deck.specs.Deck.{Deck}
use Rattle.pc_deck.specs.Misfit.{HasMisfit}
use Rattle.pc_project.specs.declared.project.Project.TheInside.{Inside}
use Rattle.pc_project.specs.Figures.{IsProjectOfDeck}
use Rattle.pc_project.specs.Refusal.{IsRefusedWith, of_cards}
use Rattle.pc_project.specs.Planned.{IsPlanned}
use Rattle.pc_project.proofs.FigureLaws.{project_in-figures}
use Rattle.pc_project.proofs.MakesLaws.{makes_project}
use Rattle.pc_project.proofs.PlannedLaws.{project_from-is, project_in-planned}
use Rattle.pc_project.proofs.RefusalLaws.{handed_on}
use Rattle.pc_project.proofs.phases.project_of.Goals as goal

-- a fault of a card is one with which the deck is refused
refused_by_card : (deck : Deck) (error : DeckError) → Refuses (IsFirstFault (HasMisfit Plan deck)) error → Refuses (IsRefusedWith deck) error
refused_by_card deck (Fault fault) first = of_cards first
refused_by_card deck OutOfMemory first = first

pub returns-in_err-numbers-clause-refused : goal.returns-in_err-numbers-clause-refused
returns-in_err-numbers-clause-refused c =
    handed_on (Refuses (IsRefusedWith c.args.cards)) c.from_residual.result c.in_err-numbers.field-0.0 c.from_residual.ensures.1
    (refused_by_card c.args.cards c.in_err-numbers.field-0.0 c.in_err-numbers.ensures.first)

pub invariant_of-result : goal.invariant_of-result
invariant_of-result c =
    let deck = c.args.cards in
    let numbers = c.in_ok-numbers.ensures.numbers in
    let lists = numbers.lists in
    let frame = c.in_ok-frame.ensures in
    let inside : Inside = record {
      cards = deck;
      frame = c.in_ok-frame.frame;
      pieces = c.in_ok-numbers.numbers.pieces;
      loads = c.in_ok-numbers.numbers.loads;
      accounts = c.in_ok-numbers.numbers.accounts;
    } in
    subst IsPlanned
    (sym (project_from-is inside frame.network frame.tree frame.lists lists.pieces lists.loads lists.accounts))
    (project_in-planned deck _ _ frame.makes numbers.within
    (project_in-figures deck numbers.within frame.makes.cards frame.makes.figures _ _ frame.entries frame.small frame.states))

pub returns-clause-project : goal.returns-clause-project
returns-clause-project c =
    let deck = c.args.cards in
    let numbers = c.in_ok-numbers.ensures.numbers in
    let lists = numbers.lists in
    let frame = c.in_ok-frame.ensures in
    let inside : Inside = record {
      cards = deck;
      frame = c.in_ok-frame.frame;
      pieces = c.in_ok-numbers.numbers.pieces;
      loads = c.in_ok-numbers.numbers.loads;
      accounts = c.in_ok-numbers.numbers.accounts;
    } in
    subst (IsProjectOfDeck deck)
    (sym (project_from-is inside frame.network frame.tree frame.lists lists.pieces lists.loads lists.accounts))
    (project_in-planned deck _ _ frame.makes numbers.within
    (project_in-figures deck numbers.within frame.makes.cards frame.makes.figures _ _ frame.entries frame.small frame.states)).own.is

pub returns-clause-makes : goal.returns-clause-makes
returns-clause-makes c = makes_project c.args.cards c.in_ok-frame.ensures.makes
