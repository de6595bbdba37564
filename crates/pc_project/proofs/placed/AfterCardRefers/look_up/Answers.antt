use Rattle.std.proofs.Common.{◌≡◌, ◌≤◌, [], ◌∷◌, ◌∙◌, sym, ap, inr, arith}
use Rattle.std.specs.Cmp.Lexicographic.{bytes_decides}
use Rattle.std.proofs.lemmas.Bool.{false≢true}
use Rattle.pc_cards.specs.Entry.{Reference}
use Rattle.pc_cards.specs.declared.sort.Sort.TheVariants.{Tasks}
use Rattle.pc_deck.specs.After.{HasAfterFlaw}
use Rattle.pc_deck.specs.Misfit.{HasCardMisfit}
use Rattle.pc_deck.specs.inside.Misfit.{names_of}
use Rattle.pc_deck.specs.declared.kinds.after.AfterCard.{AfterCard}
use Rattle.pc_deck.proofs.MisfitLaws.{first_later, first_missing, first_of_flaws, first_of_names, found_there, none_of_either}
use Rattle.pc_faults.specs.First.{IsFirstFault}
use Rattle.pc_faults.specs.declared.fault.Fault.{Fault}
use Rattle.pc_faults.specs.declared.kind.Kind.TheVariants.{After}
use Rattle.pc_faults.specs.declared.target.Target.TheVariants.{Task}
use Rattle.pc_project.proofs.RefusalLaws.{handed_on}
use Rattle.pc_project.proofs.placed.AfterCardRefers.look_up.Goals as goal

-- what the card names
abbrev task : AfterCard → Reference
task card = record { target = Task; code = card.task }

abbrev before : AfterCard → Reference
before card = record { target = Task; code = card.before }

-- what is wrong with the card by itself comes after what it names
later : (card : AfterCard) (fault : Fault) → HasAfterFlaw card fault → (fault.row ≡ card.row) × (17 ≤ fault.number)
later card fault (same, is) = (ap (λ (f : Fault). f.row) is, omega (arith, ap (λ (f : Fault). f.number) is))

pub returns-in_err-task-clause-first : goal.returns-in_err-task-clause-first
returns-in_err-task-clause-first g c =
    let deck = c.args.cards.now in
    let card = c.args.self.now in
    let fault = c.in_err-task.field-0.0 in
    let first = c.in_err-task.ensures.first in
    handed_on (IsFirstFault (HasCardMisfit Tasks deck After card)) c.from_residual.result fault c.from_residual.ensures.1
    (first_of_names deck card.row (names_of Tasks After card) (HasAfterFlaw card) (later card) fault (omega (arith, ap (λ (f : Fault). f.number) first.holds.told))
    (first_missing deck card.row (task card) (before card ∷ []) fault first))

pub returns-in_err-before-clause-first : goal.returns-in_err-before-clause-first
returns-in_err-before-clause-first g c =
    let deck = c.args.cards.now in
    let card = c.args.self.now in
    let fault = c.in_err-before.field-0.0 in
    let first = c.in_err-before.ensures.first in
    handed_on (IsFirstFault (HasCardMisfit Tasks deck After card)) c.from_residual-in_err-before.result fault c.from_residual-in_err-before.ensures.1
    (first_of_names deck card.row (names_of Tasks After card) (HasAfterFlaw card) (later card) fault (omega (arith, ap (λ (f : Fault). f.number) first.holds.told))
    (first_later deck card.row (task card) (before card ∷ []) fault (found_there _ _ c.in_ok-task.ensures.found)
    (first_missing deck card.row (before card) [] fault first)))

pub returns-then-eq-clause-first : goal.returns-then-eq-clause-first
returns-then-eq-clause-first g c =
    let card = c.args.self.now in
    first_of_flaws c.args.cards.now card.row (names_of Tasks After card) (HasAfterFlaw card)
    (found_there _ _ c.in_ok-task.ensures.found, (found_there _ _ c.in_ok-before.ensures.found, tt)) c.new.result
    (record {
      holds = ((bytes_decides card.task card.before).0 (sym c.if-eq.ensures), c.new.ensures);
      least = λ other h. inr (
        ap (λ (f : Fault). f.row) c.new.ensures ∙ sym (ap (λ (f : Fault). f.row) h.1),
        omega (arith, ap (λ (f : Fault). f.number) h.1, ap (λ (f : Fault). f.number) c.new.ensures),
      );
    })

pub returns-clause-faultless : goal.returns-clause-faultless
returns-clause-faultless g c =
    let card = c.args.self.now in
    none_of_either c.args.cards.now card.row (names_of Tasks After card) (HasAfterFlaw card)
    (found_there _ _ c.in_ok-task.ensures.found, (found_there _ _ c.in_ok-before.ensures.found, tt))
    (λ fault h. false≢true (c.if-eq.ensures ∙ (bytes_decides card.task card.before).1 h.0))
