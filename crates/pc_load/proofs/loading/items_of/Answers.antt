use Rattle.std.proofs.Common.{List, length, subst, sym}
use Rattle.pc_rollup.proofs.lemmas.figures.PushLaws.{if_answered}
use Rattle.pc_rollup.specs.inside.Totals.{AreAtLeaves}
use Rattle.pc_wbs.specs.declared.tree.ItemRow.{ItemRow}
use Rattle.pc_load.specs.inside.Items.{IsItemTable}
use Rattle.pc_load.specs.Loading.{AreItemParts, ItemsAddUp}
use Rattle.pc_load.specs.Table.{column}
use Rattle.pc_load.specs.inside.Table.{IsTableOf}
use Rattle.pc_load.proofs.LoadingLaws.{costs_at_leaves, items_have_parts, items_add_up}
use Rattle.pc_load.proofs.loading.items_of.Goals as goal

pub item_table-requires-clause-at_leaves : goal.item_table-requires-clause-at_leaves
item_table-requires-clause-at_leaves c =
    let project = c.args.project.now in
    let is : IsTableOf (length project.tree) c.in_ok-entries.entries.items c.args.width c.args.periods c.in_ok-leaves.leaves =
    rw (← c.tree-tree.ensures.tree, ← c.len.ensures.len, ← c.deref.ensures.value) c.in_ok-leaves.ensures.table in
    λ k lt. subst (λ (tree : List ItemRow). AreAtLeaves tree (column c.in_ok-leaves.leaves k)) (sym c.tree-tree.ensures.tree)
    (costs_at_leaves project c.args.times.now c.in_ok-entries.entries.items c.args.width c.args.periods c.in_ok-leaves.leaves
    c.tree-tree.ensures.planned c.in_ok-entries.ensures.costs is k (rw (← is.period_count) lt))

pub returns-clause-parts : goal.returns-clause-parts
returns-clause-parts c =
    let project = c.args.project.now in
    let is : IsTableOf (length project.tree) c.in_ok-entries.entries.items c.args.width c.args.periods c.in_ok-leaves.leaves =
    rw (← c.tree-tree.ensures.tree, ← c.len.ensures.len, ← c.deref.ensures.value) c.in_ok-leaves.ensures.table in
    if_answered c.item_table.result (IsItemTable c.tree-tree.result.now c.in_ok-leaves.leaves) (AreItemParts project c.args.times.now c.args.width c.args.periods)
    (λ items are. items_have_parts project c.args.times.now c.in_ok-entries.entries.items c.args.width c.args.periods c.in_ok-leaves.leaves
    items c.tree-tree.ensures.planned c.in_ok-entries.ensures.costs is (rw (← c.tree-tree.ensures.tree) are))
    c.item_table.ensures.items

pub returns-clause-add_up : goal.returns-clause-add_up
returns-clause-add_up c =
    let project = c.args.project.now in
    if_answered c.item_table.result (AreItemParts project c.args.times.now c.args.width c.args.periods) (ItemsAddUp project)
    (λ items parts. items_add_up project c.args.times.now c.args.width c.args.periods items c.tree-tree.ensures.planned c.requires.times c.requires.some_periods c.requires.whole parts)
    (returns-clause-parts c)
