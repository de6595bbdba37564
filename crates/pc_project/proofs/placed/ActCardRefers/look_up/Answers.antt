use Rattle.std.proofs.Common.{◌≡◌, ◌≢◌, ◌≤◌, ℕ, List, [], ◌∷◌, ◌∙◌, sym, ap, arith}
use Rattle.std.specs.Cmp.Lexicographic.{bytes_decides}
use Rattle.std.proofs.lemmas.Bool.{false≢true}
use Rattle.pc_cards.specs.Entry.{Reference}
use Rattle.pc_cards.specs.declared.sort.Sort.TheVariants.{Plan}
use Rattle.pc_deck.specs.Act.{HasActFlaw}
use Rattle.pc_deck.specs.Deck.{Deck}
use Rattle.pc_deck.specs.Misfit.{HasCardMisfit, HasUnknown}
use Rattle.pc_deck.specs.inside.Misfit.{names_of}
use Rattle.pc_deck.specs.declared.kinds.act.ActCard.{ActCard}
use Rattle.pc_deck.proofs.MisfitLaws.{first_later, first_missing, first_of_flaws, first_of_names, found_there, none_of_either}
use Rattle.pc_faults.specs.First.{IsFirstFault}
use Rattle.pc_faults.specs.declared.fault.Fault.{Fault}
use Rattle.pc_faults.specs.declared.kind.Kind.TheVariants.{Act}
use Rattle.pc_faults.specs.declared.target.Target.TheVariants.{Event, Item}
use Rattle.pc_project.proofs.CardLaws.{act_later, act_of_durations, act_of_none, act_of_one_event}
use Rattle.pc_project.proofs.RefusalLaws.{handed_on}
use Rattle.pc_project.proofs.placed.ActCardRefers.look_up.Goals as goal

-- what the card names
abbrev begin : ActCard → Reference
begin card = record { target = Event; code = card.from }

abbrev end : ActCard → Reference
end card = record { target = Event; code = card.to }

abbrev place : ActCard → Reference
place card = record { target = Item; code = card.item }

-- an unknown name is the card's first fault
unknown : (deck : Deck) (card : ActCard) (fault : Fault) → fault.number ≤ 17 → IsFirstFault (HasUnknown deck card.row (names_of Plan Act card)) fault →
    IsFirstFault (HasCardMisfit Plan deck Act card) fault
unknown deck card fault number first = first_of_names deck card.row (names_of Plan Act card) (HasActFlaw card) (act_later card) fault number first

pub returns-in_err-from-clause-first : goal.returns-in_err-from-clause-first
returns-in_err-from-clause-first g c =
    let deck = c.args.cards.now in
    let card = c.args.self.now in
    let fault = c.in_err-from.field-0.0 in
    let first = c.in_err-from.ensures.first in
    handed_on (IsFirstFault (HasCardMisfit Plan deck Act card)) c.from_residual.result fault c.from_residual.ensures.1
    (unknown deck card fault (omega (arith, ap (λ (f : Fault). f.number) first.holds.told))
    (first_missing deck card.row (begin card) (end card ∷ place card ∷ []) fault first))

pub returns-in_err-to-clause-first : goal.returns-in_err-to-clause-first
returns-in_err-to-clause-first g c =
    let deck = c.args.cards.now in
    let card = c.args.self.now in
    let fault = c.in_err-to.field-0.0 in
    let first = c.in_err-to.ensures.first in
    handed_on (IsFirstFault (HasCardMisfit Plan deck Act card)) c.from_residual-in_err-to.result fault c.from_residual-in_err-to.ensures.1
    (unknown deck card fault (omega (arith, ap (λ (f : Fault). f.number) first.holds.told))
    (first_later deck card.row (begin card) (end card ∷ place card ∷ []) fault (found_there _ _ c.in_ok-from.ensures.found)
    (first_missing deck card.row (end card) (place card ∷ []) fault first)))

pub returns-in_err-item-clause-first : goal.returns-in_err-item-clause-first
returns-in_err-item-clause-first g c =
    let deck = c.args.cards.now in
    let card = c.args.self.now in
    let fault = c.in_err-item.field-0.0 in
    let first = c.in_err-item.ensures.first in
    handed_on (IsFirstFault (HasCardMisfit Plan deck Act card)) c.from_residual-in_err-item.result fault c.from_residual-in_err-item.ensures.1
    (unknown deck card fault (omega (arith, ap (λ (f : Fault). f.number) first.holds.told))
    (first_later deck card.row (begin card) (end card ∷ place card ∷ []) fault (found_there _ _ c.in_ok-from.ensures.found)
    (first_later deck card.row (end card) (place card ∷ []) fault (found_there _ _ c.in_ok-to.ensures.found)
    (first_missing deck card.row (place card) [] fault first))))

pub returns-then-eq-clause-first : goal.returns-then-eq-clause-first
returns-then-eq-clause-first g c =
    let card = c.args.self.now in
    first_of_flaws c.args.cards.now card.row (names_of Plan Act card) (HasActFlaw card)
    (found_there _ _ c.in_ok-from.ensures.found, (found_there _ _ c.in_ok-to.ensures.found, (found_there _ _ c.in_ok-item.ensures.found, tt)))
    c.new.result (act_of_one_event card c.new.result ((bytes_decides card.from card.to).0 (sym c.if-eq.ensures)) c.new.ensures)

pub returns-in-Some-clause-first : goal.returns-in-Some-clause-first
returns-in-Some-clause-first g c =
    let card = c.args.self.now in
    first_of_flaws c.args.cards.now card.row (names_of Plan Act card) (HasActFlaw card)
    (found_there _ _ c.in_ok-from.ensures.found, (found_there _ _ c.in_ok-to.ensures.found, (found_there _ _ c.in_ok-item.ensures.found, tt)))
    c.in-Some.fault (act_of_durations card (λ same. false≢true (c.if-eq.ensures ∙ (bytes_decides card.from card.to).1 same)) c.in-Some.fault c.in-Some.ensures)

pub returns-clause-faultless : goal.returns-clause-faultless
returns-clause-faultless g c =
    let card = c.args.self.now in
    none_of_either c.args.cards.now card.row (names_of Plan Act card) (HasActFlaw card)
    (found_there _ _ c.in_ok-from.ensures.found, (found_there _ _ c.in_ok-to.ensures.found, (found_there _ _ c.in_ok-item.ensures.found, tt)))
    (act_of_none card (λ same. false≢true (c.if-eq.ensures ∙ (bytes_decides card.from card.to).1 same)) c.in_default.ensures)
