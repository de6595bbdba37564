use Rattle.std.proofs.Common.{◌<◌, length, ap, arith}
use Rattle.pc_deck.specs.declared.kinds.act.ActCard.{ActCard}
use Rattle.pc_project.proofs.BranchLaws.{act_item, act_item-in_tree, branch_all, branch_more}
use Rattle.pc_project.proofs.leaves.act_fault.Goals as goal

pub branch_fault-requires : goal.branch_fault-requires
branch_fault-requires c =
    act_item-in_tree c.args.cards.now c.args.tree.now c.args.placements.now c.loop-a.a c.card-item.result c.requires.faultless c.requires.tree c.requires.placements
    (omega (arith, c.loop-a-test.true, ap length c.acts-card-items.ensures.cards)) (rw c.acts-card-items.ensures.cards at c.card-item.is)

pub loop-a-preserved : goal.loop-a-preserved
loop-a-preserved c =
    let deck = c.args.cards.now in
    let inside : c.loop-a.a < length deck.acts = omega (arith, c.loop-a-test.true, ap length c.acts-card-items.ensures.cards) in
    let card = rw c.acts-card-items.ensures.cards at c.card-item.is in
    branch_more deck (λ (card : ActCard). card.row) (λ card. card.item) deck.acts c.args.tree.now _ c.loop-a.a c.card-item.result c.loop-a.fault c.branch_fault.result _ c.requires.tree inside card
    (act_item deck c.args.placements.now c.loop-a.a c.card-item.result c.requires.placements inside card) c.loop-a.invariant c.branch_fault.ensures c.earliest-fault.ensures

pub returns : goal.returns
returns c =
    branch_all c.args.cards.now (λ (card : ActCard). card.row) (λ card. card.item) c.args.cards.now.acts c.loop-a.a c.loop-a.fault
    (omega (arith, c.loop-a-test.false, ap length c.acts-card-items.ensures.cards)) c.loop-a.invariant
