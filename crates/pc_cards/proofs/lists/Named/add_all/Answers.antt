use Rattle.pc_cards.proofs.NameLemmas.{added_more}
use Rattle.pc_cards.proofs.lists.Named.add_all.Goals as goal

pub loop-card-preserved : goal.loop-card-preserved
loop-card-preserved g c =
    added_more _ _ _ _ c.args.cards.now c.loop-card.card-index c.card-item.result c.in_ok-add.field-0 c.requires c.loop-card.invariant c.loop-card-test.true
    c.card-item.is c.in_ok-add.ensures.added c.in_ok-add.ensures.kept
