use Rattle.std.proofs.Common.{◌≡◌, ℕ, List, subst, sym, ◌∙◌}
use Rattle.std.proofs.lemmas.List.{length_push}
use Rattle.pc_wbs.specs.Preorder.{IsPreorder}
use Rattle.pc_rollup.proofs.BackLaws.{all_came, order_of, place_of_turn}
use Rattle.pc_rollup.proofs.ColumnLaws.{rolling_none, can_pass, passed, top_passed, rolled_all}
use Rattle.pc_rollup.proofs.totals.roll.Goals as goal

pub loop-item-init : goal.loop-item-init
loop-item-init g c =
    let order = order_of c.into_iter-item-iterator.result in
    let same : c.preorder.result.now ≡ order = cc in
    rolling_none g.A.Amounts.columns c.args.tree.now order c.args.amounts.now c.preorder.ensures.in_range c.preorder.ensures.tree
    (subst (λ (xs : List ℕ). IsPreorder c.args.tree.now xs) same c.preorder.ensures.order) c.requires

pub add_at-requires : goal.add_at-requires
add_at-requires g c =
    can_pass g.A.Amounts.columns c.args.tree.now _ _ c.in-Some-parent.parent c.args.amounts.now c.loop-item.amounts c.in-Some.field-0.now c.index-amounts-item.result c.loop-item.invariant
    (place_of_turn c.into_iter-item-iterator.result _ _ c.loop-item.yielded c.loop-item.yielded_by _ c.next.ensures.steps c.in-Some.field-0 c.in-Some.is)
    (sym c.in-Some-parent.ensures.parent) c.index-amounts-item.is

pub loop-item-preserved-in-Some-parent : goal.loop-item-preserved-in-Some-parent
loop-item-preserved-in-Some-parent g c =
    rw (length_push c.loop-item.yielded c.in-Some.field-0)
    (passed g.A.Amounts.columns c.args.tree.now _ _ c.in-Some-parent.parent c.args.amounts.now c.loop-item.amounts c.in-Some.field-0.now c.index-amounts-item.result c.loop-item.invariant
    (place_of_turn c.into_iter-item-iterator.result _ _ c.loop-item.yielded c.loop-item.yielded_by _ c.next.ensures.steps c.in-Some.field-0 c.in-Some.is)
    (sym c.in-Some-parent.ensures.parent) c.index-amounts-item.is _ c.add_at.ensures)

pub loop-item-preserved : goal.loop-item-preserved
loop-item-preserved g c =
    rw (length_push c.loop-item.yielded c.in-Some.field-0) (top_passed g.A.Amounts.columns c.args.tree.now _ _ c.args.amounts.now c.loop-item.amounts c.in-Some.field-0.now c.loop-item.invariant
    (place_of_turn c.into_iter-item-iterator.result _ _ c.loop-item.yielded c.loop-item.yielded_by _ c.next.ensures.steps c.in-Some.field-0
    c.in-Some.is) (sym c.parent.ensures.parent ∙ c.in_default.is))

pub returns : goal.returns
returns g c =
    rolled_all g.A.Amounts.columns c.args.tree.now _ _ c.args.amounts.now c.loop-item.amounts c.requires
    (all_came c.into_iter-item-iterator.result _ _ c.loop-item.yielded c.loop-item.yielded_by _ c.next.ensures.steps c.in-None.is) c.loop-item.invariant
