use Rattle.std.proofs.Common.{arith, rules}
use Rattle.pc_wbs.proofs.LinkLaws.{firsts_from, firsts_none, nexts_from, nexts_none}
use Rattle.pc_wbs.proofs.order.links_of.Goals as goal

pub loop-item-init : goal.loop-item-init
loop-item-init c = (
  firsts_none _ _ _ (c.in_ok-firsts.ensures.items_if_clones_equal (λ y is. search rules)) (omega arith),
  nexts_none _ _ _ (c.in_ok-nexts.ensures.items_if_clones_equal (λ y is. search rules)) (omega arith),
)

pub link-requires-clause-firsts : goal.link-requires-clause-firsts
link-requires-clause-firsts c = firsts_from _ _ _ _ c.loop-item.invariant.0 (omega arith)

pub link-requires-clause-nexts : goal.link-requires-clause-nexts
link-requires-clause-nexts c = nexts_from _ _ _ _ c.loop-item.invariant.1 (omega arith)

pub returns-clause-firsts : goal.returns-clause-firsts
returns-clause-firsts c = firsts_from _ _ _ _ c.loop-item.invariant.0 (omega arith)

pub returns-clause-nexts : goal.returns-clause-nexts
returns-clause-nexts c = nexts_from _ _ _ _ c.loop-item.invariant.1 (omega arith)
