use Rattle.std.proofs.Common.{◌∙◌, ap, map}
use Rattle.std.proofs.lemmas.List.{take_all}
use Rattle.pc_project.specs.Project.{row_of}
use Rattle.pc_project.proofs.LoopLaws.{map_take_more}
use Rattle.pc_tasks.proofs.tree.item_rows.Goals as goal

pub returns-in_err-rows-clause-within : goal.returns-in_err-rows-clause-within
returns-in_err-rows-clause-within c = c.items.ensures.within

pub returns-in_err-push-clause-within : goal.returns-in_err-push-clause-within
returns-in_err-push-clause-within c = c.items.ensures.within

pub loop-item-preserved : goal.loop-item-preserved
loop-item-preserved c =
    c.in_ok-push.ensures.items
    ∙ map_take_more (row_of c.args.cards.now) c.items-item-items.result.now c.loop-item.item-index c.item-item.result c.item_row.result c.loop-item.rows.items
    c.loop-item-test.true c.item-item.is c.loop-item.invariant c.item_row.ensures

pub returns-clause-rows : goal.returns-clause-rows
returns-clause-rows c =
    let rows = map (row_of c.args.cards.now) in
    c.loop-item.invariant ∙ (ap rows (take_all c.loop-item.item-index c.items-item-items.result.now c.loop-item-test.false) ∙ ap rows c.items-item-items.ensures.cards)

pub returns-clause-within : goal.returns-clause-within
returns-clause-within c = c.items.ensures.within
