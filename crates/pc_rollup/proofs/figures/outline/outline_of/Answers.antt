use Rattle.std.proofs.Common.{refl, arith}
use Rattle.pc_rollup.proofs.lemmas.figures.OutlineLaws.{rows_more, rows_all}
use Rattle.pc_rollup.proofs.figures.outline.outline_of.Goals as goal

pub loop-item-preserved : goal.loop-item-preserved
loop-item-preserved c =
    rows_more _ _ _ _ _ _ c.loop-item.invariant c.in_ok-push.ensures.items (record {
      item = refl;
      known = c.preorder-item-items.ensures.order.range c.loop-item.item-index c.loop-item-test.true;
      level = c.level-level.ensures.level;
    })

pub returns-clause-outline : goal.returns-clause-outline
returns-clause-outline c =
    rows_all _ _ _ _ c.preorder-item-items.ensures.order (omega arith) c.loop-item.invariant
