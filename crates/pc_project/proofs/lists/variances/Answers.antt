use Rattle.std.proofs.Common.{◌∙◌, arith}
use Rattle.pc_times.specs.Estimates.{variance_of}
use Rattle.pc_deck.specs.inside.Act.{IsActWithin}
use Rattle.pc_deck.specs.Durations.{HasOrderedEstimates}
use Rattle.pc_deck.specs.declared.kinds.act.ActCard.{ActCard}
use Rattle.pc_project.proofs.LoopLaws.{held_by_card, map_take_more}
use Rattle.pc_project.proofs.lists.variances.Goals as goal

-- the estimates of the card are in order
abbrev IsOrdered : ActCard → Type 0
IsOrdered act = HasOrderedEstimates act.opt act.likely act.pess

pub variance_36-requires-clause-opt : goal.variance_36-requires-clause-opt
variance_36-requires-clause-opt c =
    let ordered = held_by_card IsOrdered c.args.acts.now c.loop-act.act-index c.act-item.result c.loop-act-test.true c.act-item.is c.requires.ordered in
    omega (arith, ordered.optimistic, ordered.pessimistic)

pub variance_36-requires-clause-pess : goal.variance_36-requires-clause-pess
variance_36-requires-clause-pess c =
    (held_by_card IsActWithin c.args.acts.now c.loop-act.act-index c.act-item.result c.loop-act-test.true c.act-item.is c.requires.within).pess

pub variance_36-requires-clause-unit : goal.variance_36-requires-clause-unit
variance_36-requires-clause-unit c = c.requires.unit

pub loop-act-preserved : goal.loop-act-preserved
loop-act-preserved c =
    c.in_ok-push.ensures.items
    ∙ map_take_more (λ act. variance_of act.opt act.pess c.args.unit_days) c.args.acts.now c.loop-act.act-index c.act-item.result c.variance_36.result
    c.loop-act.variances.items c.loop-act-test.true c.act-item.is c.loop-act.invariant c.variance_36.ensures
