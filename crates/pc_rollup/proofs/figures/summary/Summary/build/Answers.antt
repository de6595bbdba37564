use Rattle.std.proofs.Common.{arith}
use Rattle.pc_accounts.specs.Amounts.{item_of}
use Rattle.pc_rollup.proofs.lemmas.figures.FigureLaws.{counts_once, summary_is, top_known}
use Rattle.pc_rollup.proofs.figures.summary.Summary.build.Goals as goal

pub index-whole-requires : goal.index-whole-requires
index-whole-requires c =
    let known = top_known c.args.tree.now c.preorder.result.now c.args.accounts.now c.args.entries.now c.in_ok-amounts.amounts.items c.preorder.ensures.tree c.preorder.ensures.order
    c.in_ok-amounts.ensures in
    let size = c.in_ok-amounts.amounts.ok.0 in
    omega arith

pub returns-clause-summary : goal.returns-clause-summary
returns-clause-summary c =
    summary_is c.args.tree.now c.preorder.result.now c.args.accounts.now c.args.entries.now c.in_ok-amounts.amounts.items _ c.depth.result
    c.in_ok-outline.ensures.ranged c.in_ok-outline.ensures.sound c.preorder.ensures.order c.depth.ensures.depth c.requires.on_tree c.requires.one_each c.in_ok-amounts.ensures c.index-whole.ensures
    c.in_ok-outline.outline.items c.in_ok-outline.ensures.outline

pub returns-clause-once : goal.returns-clause-once
returns-clause-once c =
    counts_once c.args.tree.now c.preorder.result.now c.args.accounts.now c.args.entries.now c.in_ok-amounts.amounts.items _ c.depth.result
    c.in_ok-outline.ensures.ranged c.in_ok-outline.ensures.sound c.preorder.ensures.order c.depth.ensures.depth c.requires.on_tree c.requires.one_each c.in_ok-amounts.ensures c.index-whole.ensures
    c.in_ok-outline.outline.items
    (λ level a some lt. c.each_leaf_has_one_line.ensures.one c.args.tree.now level (item_of c.args.accounts.now a) c.in_ok-outline.ensures.ranged
    c.in_ok-outline.ensures.sound some (c.requires.on_tree.known a lt) (c.requires.on_tree.leaves a lt))
