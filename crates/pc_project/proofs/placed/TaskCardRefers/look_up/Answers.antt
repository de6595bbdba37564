use Rattle.std.proofs.Common.{[], ap, arith}
use Rattle.pc_cards.specs.declared.sort.Sort.TheVariants.{Tasks}
use Rattle.pc_deck.specs.Durations.{HasDurationFault}
use Rattle.pc_deck.specs.Misfit.{HasCardMisfit}
use Rattle.pc_deck.specs.inside.Misfit.{names_of}
use Rattle.pc_deck.proofs.MisfitLaws.{first_missing, first_of_flaws, first_of_names, found_there, none_of_either}
use Rattle.pc_faults.specs.First.{IsFirstFault}
use Rattle.pc_faults.specs.declared.fault.Fault.{Fault}
use Rattle.pc_faults.specs.declared.kind.Kind.TheVariants.{Task}
use Rattle.pc_faults.specs.declared.target.Target.TheVariants.{Item}
use Rattle.pc_project.proofs.CardLaws.{durations_later}
use Rattle.pc_project.proofs.RefusalLaws.{handed_on}
use Rattle.pc_project.proofs.placed.TaskCardRefers.look_up.Goals as goal

pub returns-in_err-item-clause-first : goal.returns-in_err-item-clause-first
returns-in_err-item-clause-first g c =
    let deck = c.args.cards.now in
    let card = c.args.self.now in
    let fault = c.in_err-item.field-0.0 in
    let first = c.in_err-item.ensures.first in
    handed_on (IsFirstFault (HasCardMisfit Tasks deck Task card)) c.from_residual.result fault c.from_residual.ensures.1
    (first_of_names deck card.row (names_of Tasks Task card) (HasDurationFault card.row card.opt card.likely card.pess card.normal card.crash)
    (durations_later card.row card.opt card.likely card.pess card.normal card.crash) fault (omega (arith, ap (λ (f : Fault). f.number) first.holds.told))
    (first_missing deck card.row (record { target = Item; code = card.item }) [] fault first))

pub returns-in-Some-clause-first : goal.returns-in-Some-clause-first
returns-in-Some-clause-first g c =
    let card = c.args.self.now in
    first_of_flaws c.args.cards.now card.row (names_of Tasks Task card) (HasDurationFault card.row card.opt card.likely card.pess card.normal card.crash)
    (found_there _ _ c.in_ok-item.ensures.found, tt) c.in-Some.fault c.in-Some.ensures

pub returns-clause-faultless : goal.returns-clause-faultless
returns-clause-faultless g c =
    let card = c.args.self.now in
    none_of_either c.args.cards.now card.row (names_of Tasks Task card) (HasDurationFault card.row card.opt card.likely card.pess card.normal card.crash)
    (found_there _ _ c.in_ok-item.ensures.found, tt) c.in_default.ensures
