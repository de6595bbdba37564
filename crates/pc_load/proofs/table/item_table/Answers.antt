use Rattle.std.proofs.Common.{◌≡◌, ℕ, List, ◌++◌, length, sym, ap, ◌∙◌, subst, arith}
use Rattle.std.specs.Prelude.{ℤ}
use Rattle.pc_wbs.specs.declared.tree.ItemRow.{ItemRow}
use Rattle.pc_rollup.specs.inside.Totals.{AreRolledUp}
use Rattle.pc_load.specs.inside.Items.{IsItemTable}
use Rattle.pc_load.specs.Table.{Table, column}
use Rattle.pc_load.specs.inside.TableInside.{table_from}
use Rattle.pc_load.proofs.ItemLaws.{AreRolledTo, rolled_more, items_are, items_natural, levels_add_up}
use Rattle.pc_load.proofs.table.item_table.Goals as goal

pub loop-k-preserved : goal.loop-k-preserved
loop-k-preserved c =
    let rolled : AreRolledUp c.args.tree.now (column c.args.leaves.now c.loop-k.k) c.in_ok-totals.totals.items = rw (← c.column.ensures.column) c.in_ok-totals.ensures in
    let pushed : c.extend_from_slice.new.self.items ≡ c.loop-k.cells.items ++ c.in_ok-totals.totals.items = rw (← c.deref.ensures.value) c.in_ok-extend_from_slice.ensures.items in
    rw pushed (rolled_more c.args.tree.now c.args.leaves.now c.loop-k.k c.loop-k.cells.items c.in_ok-totals.totals.items c.loop-k.invariant rolled)

-- the leaves, as the fields are
fields_are : (tree : List ItemRow) (leaves other : Table) (n : ℕ) (cells : List ℤ) → leaves ≡ other → AreRolledTo tree other n cells → AreRolledTo tree leaves n cells
fields_are tree leaves other n cells same so_far =
    subst (λ (t : Table). AreRolledTo tree t n cells) (sym same) so_far

pub invariant_of-result : goal.invariant_of-result
invariant_of-result c =
    let leaves = table_from c.leaves.inside in
    let same : leaves ≡ c.args.leaves.now = c.leaves.view_is in
    let so_far = fields_are c.args.tree.now leaves c.args.leaves.now c.loop-k.k c.loop-k.cells.items same c.loop-k.invariant in
    let one_each : leaves.rows ≡ length c.args.tree.now = ap (λ (t : Table). t.rows) same ∙ c.requires.one_each in
    rw c.len-rows.ensures.len (items_natural c.args.tree.now leaves c.loop-k.k c.loop-k.cells.items c.leaves.invariant one_each (omega arith) so_far)

pub returns-clause-items : goal.returns-clause-items
returns-clause-items c =
    let leaves = table_from c.leaves.inside in
    let same : leaves ≡ c.args.leaves.now = c.leaves.view_is in
    let so_far = fields_are c.args.tree.now leaves c.args.leaves.now c.loop-k.k c.loop-k.cells.items same c.loop-k.invariant in
    let are : IsItemTable c.args.tree.now leaves (record { rows = length c.args.tree.now; periods = leaves.periods; cells = c.loop-k.cells.items })
    = items_are c.args.tree.now leaves c.loop-k.k c.loop-k.cells.items (omega arith) so_far in
    subst (λ (t : Table). IsItemTable c.args.tree.now t (record { rows = c.len-rows.result; periods = leaves.periods; cells = c.loop-k.cells.items })) same (rw c.len-rows.ensures.len are)

pub returns-clause-levels : goal.returns-clause-levels
returns-clause-levels c =
    let leaves = table_from c.leaves.inside in
    let same : leaves ≡ c.args.leaves.now = c.leaves.view_is in
    let so_far = fields_are c.args.tree.now leaves c.args.leaves.now c.loop-k.k c.loop-k.cells.items same c.loop-k.invariant in
    let are : IsItemTable c.args.tree.now leaves (record { rows = length c.args.tree.now; periods = leaves.periods; cells = c.loop-k.cells.items })
    = items_are c.args.tree.now leaves c.loop-k.k c.loop-k.cells.items (omega arith) so_far in
    rw c.len-rows.ensures.len (levels_add_up c.args.tree.now leaves
    (record { rows = length c.args.tree.now; periods = leaves.periods; cells = c.loop-k.cells.items }) c.len-rows.ensures.in_range
    c.len-rows.ensures.tree are)
