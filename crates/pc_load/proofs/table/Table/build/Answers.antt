use Rattle.std.proofs.Common.{◌≡◌, ◌*◌, List, ◌++◌, length, replicate, take, drop, ap, arith}
use Rattle.std.specs.Prelude.{ℤ, pos}
use Rattle.std.proofs.Math.Nat.{mul_comm}
use Rattle.std.proofs.Math.Seq.{take_at}
use Rattle.pc_load.specs.inside.Adding.{IsAdded}
use Rattle.pc_load.specs.inside.Table.{load_entry_at, row_of_entry}
use Rattle.pc_load.proofs.TableLaws.{summed_none, summed_room, summed_more, table_is, is_table, rows_add_up, column_small}
use Rattle.pc_load.proofs.table.Table.build.Goals as goal

pub loop-entry-init : goal.loop-entry-init
loop-entry-init c =
    let made : c.in_ok-cells.cells.items ≡ replicate (c.args.rows * c.args.periods) (pos 0) = c.in_ok-cells.ensures.items_if_clones_equal (λ y e. e) in
    rw made (summed_none c.args.rows c.args.periods c.args.entries.now c.args.width (c.args.rows * c.args.periods) (mul_comm c.args.rows c.args.periods))

pub add-requires-clause-room : goal.add-requires-clause-room
add-requires-clause-room c =
    rw c.deref_mut.ensures.value (summed_room c.args.rows c.args.periods c.args.entries.now c.args.width c.loop-entry.entry-index
    (row_of_entry c.args.entries.now c.loop-entry.entry-index) c.loop-entry.cells.items c.requires.entries
    (c.requires.entries.known c.loop-entry.entry-index c.loop-entry-test.true) c.loop-entry.invariant)

pub loop-entry-preserved : goal.loop-entry-preserved
loop-entry-preserved c =
    let same : IsAdded c.args.rows c.args.periods
    (load_entry_at c.args.entries.now c.loop-entry.entry-index) c.args.width c.loop-entry.cells.items c.add.new.cells =
    rw (← c.deref_mut.ensures.value) c.add.ensures in
    let long = c.deref_mut.ensures.len in
    let one_each = same.one_each in
    let kept : take c.loop-entry.cells.len (c.add.new.cells ++ drop (length c.add.new.cells) c.loop-entry.cells.items)
    ≡ c.add.new.cells = take_at c.add.new.cells (drop (length c.add.new.cells) c.loop-entry.cells.items) c.loop-entry.cells.len
    (omega (arith, ap (λ (l : List ℤ). length l) c.deref_mut.ensures.value)) in
    rw kept (summed_more c.args.rows c.args.periods c.args.entries.now c.args.width c.loop-entry.entry-index c.loop-entry.cells.items
    c.add.new.cells c.requires.entries c.loop-entry-test.true c.loop-entry.invariant same)

pub invariant_of-result : goal.invariant_of-result
invariant_of-result c =
    is_table c.args.rows c.args.periods c.args.entries.now c.args.width c.loop-entry.entry-index c.loop-entry.cells.items c.requires.rows c.requires.few_periods c.loop-entry.invariant (omega arith)

pub returns-clause-table : goal.returns-clause-table
returns-clause-table c =
    table_is c.args.rows c.args.periods c.args.entries.now c.args.width c.loop-entry.entry-index c.loop-entry.cells.items c.loop-entry.invariant (omega arith)

pub returns-clause-add_up : goal.returns-clause-add_up
returns-clause-add_up c =
    rows_add_up c.args.rows c.args.periods c.args.entries.now c.args.width c.loop-entry.entry-index c.loop-entry.cells.items c.requires.some_periods c.loop-entry.invariant (omega arith)

pub returns-clause-small : goal.returns-clause-small
returns-clause-small c = λ k lt.
    column_small c.args.rows c.args.periods c.args.entries.now c.args.width c.loop-entry.entry-index k c.loop-entry.cells.items c.requires.entries c.loop-entry.invariant lt
