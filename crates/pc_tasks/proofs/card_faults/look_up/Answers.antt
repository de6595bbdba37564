use Rattle.std.proofs.Common.{◌≡◌, Option, Some, None, ◌∙◌, refl, ap, map, subst, arith}
use Rattle.std.specs.List.{Any}
use Rattle.pc_cards.specs.declared.sort.Sort.TheVariants.{Tasks}
use Rattle.pc_deck.specs.Deck.{Deck}
use Rattle.pc_deck.specs.Misfit.{HasCardMisfit, HasNoMisfit}
use Rattle.pc_deck.specs.inside.Misfit.{HasFaultOf}
use Rattle.pc_deck.proofs.MisfitLaws.{at_afters, no_fault_of}
use Rattle.pc_faults.specs.declared.fault.Fault.{Fault}
use Rattle.pc_faults.specs.declared.kind.Kind.TheVariants.{After, End}
use Rattle.pc_faults.specs.inside.First.{IsFirstIn}
use Rattle.pc_project.specs.After.{after_row}
use Rattle.pc_tasks.proofs.card_faults.look_up.Goals as goal

-- where no card has a fault, no AFTER card has one
no_fault_of_afters : (deck : Deck) (found : Option Fault) → IsFirstIn (HasFaultOf Tasks deck After) found → HasNoMisfit Tasks deck → found ≡ None
no_fault_of_afters deck None none sound = refl
no_fault_of_afters deck (Some fault) first sound = absurd (no_fault_of Tasks deck sound at_afters End (omega arith) fault first.holds)

pub first_misfit-requires : goal.first_misfit-requires
first_misfit-requires c =
    let deck = c.args.cards.now in
    subst (λ cards. IsFirstIn (λ fault. Any (λ card. HasCardMisfit Tasks deck After card fault) cards) c.in_ok-after.after) c.afters.ensures.cards c.in_ok-after.ensures.first

pub returns-in-None-clause-afters : goal.returns-in-None-clause-afters
returns-in-None-clause-afters c =
    let deck = c.args.cards.now in
    let first = subst (λ cards. IsFirstIn (λ fault. Any (λ card. HasCardMisfit Tasks deck After card fault) cards) c.in_ok-after.after) c.afters.ensures.cards c.in_ok-after.ensures.first in
    c.in_ok-after.ensures.numbers (no_fault_of_afters deck c.in_ok-after.after first c.in-None.ensures) ∙ ap (map (after_row deck)) c.afters.ensures.cards
