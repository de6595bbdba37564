use Rattle.std.proofs.Common.{◌∙◌}
use Rattle.pc_times.specs.Estimates.{expected_time}
use Rattle.pc_deck.specs.inside.Act.{IsActWithin}
use Rattle.pc_deck.specs.Durations.{HasOrderedEstimates}
use Rattle.pc_deck.specs.declared.kinds.act.ActCard.{ActCard}
use Rattle.pc_project.proofs.LoopLaws.{held_by_card, map_take_more}
use Rattle.pc_project.proofs.lists.expected_times.Goals as goal

-- the estimates of the card are in order
abbrev IsOrdered : ActCard → Type 0
IsOrdered act = HasOrderedEstimates act.opt act.likely act.pess

pub expected_sixths-requires-clause-opt : goal.expected_sixths-requires-clause-opt
expected_sixths-requires-clause-opt c =
    (held_by_card IsOrdered c.args.acts.now c.loop-act.act-index c.act-item.result c.loop-act-test.true c.act-item.is c.requires.ordered).optimistic

pub expected_sixths-requires-clause-likely : goal.expected_sixths-requires-clause-likely
expected_sixths-requires-clause-likely c =
    (held_by_card IsOrdered c.args.acts.now c.loop-act.act-index c.act-item.result c.loop-act-test.true c.act-item.is c.requires.ordered).pessimistic

pub expected_sixths-requires-clause-pess : goal.expected_sixths-requires-clause-pess
expected_sixths-requires-clause-pess c =
    (held_by_card IsActWithin c.args.acts.now c.loop-act.act-index c.act-item.result c.loop-act-test.true c.act-item.is c.requires.within).pess

pub expected_sixths-requires-clause-unit : goal.expected_sixths-requires-clause-unit
expected_sixths-requires-clause-unit c = c.requires.unit

pub loop-act-preserved : goal.loop-act-preserved
loop-act-preserved c =
    c.in_ok-push.ensures.items
    ∙ map_take_more (λ act. expected_time act.opt act.likely act.pess c.args.unit_days) c.args.acts.now c.loop-act.act-index c.act-item.result c.expected_sixths.result
    c.loop-act.times.items c.loop-act-test.true c.act-item.is c.loop-act.invariant c.expected_sixths.ensures.value
