use Rattle.std.proofs.Common.{◌<◌, length, sym, ap, subst}
use Rattle.std.specs.Prelude.{All}
use Rattle.pc_net.specs.Refusals.{IsNetError}
use Rattle.pc_project.specs.Project.{network_of}
use Rattle.pc_project.specs.Refusal.{net_fault}
use Rattle.pc_project.proofs.RangeLaws.{cycle_of-known}
use Rattle.pc_project.proofs.network.fault_of.Goals as goal

pub fault_of_cycle-requires-clause-known : goal.fault_of_cycle-requires-clause-known
fault_of_cycle-requires-clause-known c =
    subst (λ acts. All (λ act. act < length c.args.cards.now.acts) acts) (sym c.as_slice.ensures)
    (cycle_of-known c.args.cards.now c.in-Cycle.acts (subst (IsNetError (network_of c.args.cards.now)) c.in-Cycle.is c.requires).1.cycle)

pub returns-in-StartEntered : goal.returns-in-StartEntered
returns-in-StartEntered c =
    rw (c.new.ensures, c.act_card-card.ensures.row, c.act_card-card.ensures.code) (ap (net_fault c.args.cards.now) c.in-StartEntered.is)

pub returns-in-EndLeft : goal.returns-in-EndLeft
returns-in-EndLeft c =
    rw (c.new-in-EndLeft.ensures, c.act_card-card-in-EndLeft.ensures.row, c.act_card-card-in-EndLeft.ensures.code) (ap (net_fault c.args.cards.now) c.in-EndLeft.is)

pub returns-in-Dangling : goal.returns-in-Dangling
returns-in-Dangling c =
    rw (c.new-in-Dangling.ensures, c.event_card-card.ensures.row, c.event_card-card.ensures.code) (ap (net_fault c.args.cards.now) c.in-Dangling.is)
