use Rattle.std.proofs.Common.{◌≡◌, ℕ, List, length, subst, sym, ◌∙◌}
use Rattle.std.proofs.lemmas.List.{length_push}
use Rattle.pc_wbs.specs.declared.tree.ItemRow.{ItemRow}
use Rattle.pc_wbs.specs.Preorder.{IsPreorder}
use Rattle.pc_rollup.proofs.BackLaws.{all_came, order_of, place_of_turn}
use Rattle.pc_rollup.proofs.LeastLaws.{least_none, least_taken, least_top, least_all}
use Rattle.pc_rollup.proofs.figures.slacks.least_of.Goals as goal

pub loop-item-init : goal.loop-item-init
loop-item-init c =
    least_none c.args.tree.now (order_of c.into_iter-item-iterator.result) c.args.placed.now c.in_ok-least.least.items (rw (← c.len.ensures.len) c.in_ok-least.ensures)

-- the order that the loop goes back over is a preorder
order_is : (rows : List ItemRow) (order other : List ℕ) → order ≡ other → IsPreorder rows other → IsPreorder rows order
order_is rows order other same preorder = subst (λ (xs : List ℕ). IsPreorder rows xs) (sym same) preorder

pub loop-item-preserved-in-Some-parent : goal.loop-item-preserved-in-Some-parent
loop-item-preserved-in-Some-parent c =
    let order = order_of c.into_iter-item-iterator.result in
    let same : order ≡ c.preorder.result.now = cc in
    rw (length_push c.loop-item.yielded c.in-Some.field-0, c.lesser.ensures)
    (least_taken c.args.tree.now order
    (length c.loop-item.yielded) c.in-Some-parent.parent c.args.placed.now c.loop-item.least.items c.in-Some.field-0.now
    c.index.result.now c.index-in-Some-parent.result.now (record {
      ranged = c.preorder.ensures.in_range;
      preorder = order_is c.args.tree.now order c.preorder.result.now same c.preorder.ensures.order;
      so_far = c.loop-item.invariant;
      place = place_of_turn c.into_iter-item-iterator.result _ _ c.loop-item.yielded c.loop-item.yielded_by _ c.next.ensures.steps c.in-Some.field-0 c.in-Some.is;
      up = sym c.in-Some-parent.ensures.parent;
      parent_read = c.index.ensures;
      item_read = c.index-in-Some-parent.ensures;
    }))

pub loop-item-preserved : goal.loop-item-preserved
loop-item-preserved c =
    rw (length_push c.loop-item.yielded c.in-Some.field-0) (least_top c.args.tree.now _ _ c.args.placed.now c.loop-item.least.items c.in-Some.field-0.now c.loop-item.invariant
    (place_of_turn c.into_iter-item-iterator.result _ _ c.loop-item.yielded c.loop-item.yielded_by _ c.next.ensures.steps c.in-Some.field-0
    c.in-Some.is) (sym c.parent.ensures.parent ∙ c.in_default.is))

pub returns : goal.returns
returns c =
    let order = order_of c.into_iter-item-iterator.result in
    let same : order ≡ c.preorder.result.now = cc in
    least_all c.args.tree.now order _ c.args.placed.now c.loop-item.least.items (order_is c.args.tree.now order c.preorder.result.now same c.preorder.ensures.order)
    (all_came c.into_iter-item-iterator.result _ _ c.loop-item.yielded c.loop-item.yielded_by _ c.next.ensures.steps c.in-None.is) c.loop-item.invariant
