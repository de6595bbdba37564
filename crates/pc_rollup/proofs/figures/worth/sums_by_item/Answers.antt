use Rattle.std.proofs.Common.{◌∙◌, Bool, sym, List, drop, length, ap, subst, arith}
use Rattle.std.proofs.Math.Seq.{take_at}
use Rattle.pc_accounts.specs.Amounts.{item_of}
use Rattle.pc_accounts.specs.Entries.{entry_at}
use Rattle.pc_rollup.specs.inside.figures.Packages.{worth_at, worth_of}
use Rattle.pc_rollup.proofs.lemmas.figures.ValueLaws.{worth_fits}
use Rattle.pc_rollup.specs.declared.figures.worth.WorthAmounts.{WorthAmounts}
use Rattle.pc_rollup.specs.inside.Amounts.{AreRolled, CanTake}
use Rattle.pc_rollup.specs.inside.figures.Columns.{worth_columns}
use Rattle.pc_rollup.proofs.ColumnLaws.{can_roll, can_take, length_rolled, summed_none, taken_from, zeros_at}
use Rattle.pc_rollup.proofs.lemmas.figures.SumLaws.{sums_are}
use Rattle.pc_rollup.proofs.figures.worth.sums_by_item.Goals as goal

pub loop-a-init : goal.loop-a-init
loop-a-init c =
    let made = c.in_ok-sums.ensures.items_if_clones_equal (λ y e. e) in
    rw (made, c.len.ensures.len) (summed_none worth_columns (item_of c.args.accounts.now) (worth_at c.args.progress.now c.args.accounts.now c.args.entries.now)
    (length c.args.accounts.now) (length c.args.tree.now) _ (zeros_at 4))

pub add_at-requires : goal.add_at-requires
add_at-requires c =
    let accounts = c.args.accounts.now in
    let x = item_of accounts c.loop-a.a in
    let is = c.of.ensures ∙ ap (λ (b : Bool). worth_of b (entry_at c.args.entries.now c.loop-a.a)) c.unwrap_or-finished.ensures in
    subst (λ (more : WorthAmounts). CanTake worth_columns c.deref_mut.result.now x more) (sym is)
    (rw c.deref_mut.ensures.value (can_take worth_columns (item_of accounts) (worth_at c.args.progress.now accounts c.args.entries.now) (length accounts) (length c.args.tree.now)
    c.loop-a.a c.loop-a.sums.items (worth_fits c.args.progress.now accounts c.args.entries.now c.requires.small c.requires.one_each) c.loop-a-test.true
    (c.requires.on_tree.known c.loop-a.a c.loop-a-test.true) c.loop-a.invariant))

pub loop-a-preserved : goal.loop-a-preserved
loop-a-preserved c =
    let accounts = c.args.accounts.now in
    let is = c.of.ensures ∙ ap (λ (b : Bool). worth_of b (entry_at c.args.entries.now c.loop-a.a)) c.unwrap_or-finished.ensures in
    let size = c.loop-a.sums.ok.0 in
    taken_from worth_columns (item_of accounts) (worth_at c.args.progress.now accounts c.args.entries.now) (length accounts) (length c.args.tree.now) c.loop-a.a c.loop-a.sums.len c.loop-a.sums.items
    c.deref_mut.result.now c.add_at.new.items c.of.result c.loop-a-test.true (c.requires.on_tree.known c.loop-a.a c.loop-a-test.true)
    c.loop-a.invariant c.deref_mut.ensures.value is (omega arith) c.add_at.ensures

pub roll-requires : goal.roll-requires
roll-requires c =
    let accounts = c.args.accounts.now in
    rw c.deref_mut-2.ensures.value (can_roll worth_columns (item_of accounts) (worth_at c.args.progress.now c.args.accounts.now c.args.entries.now)
    (length accounts) c.args.tree.now c.requires.on_tree.known c.requires.on_tree.leaves
    c.loop-a.a c.loop-a.sums.items (worth_fits c.args.progress.now accounts c.args.entries.now c.requires.small c.requires.one_each) (omega arith) c.loop-a.invariant)

pub returns : goal.returns
returns c =
    let accounts = c.args.accounts.now in
    let old = c.loop-a.sums.items in
    let new = c.roll.new.amounts in
    let rolled = subst (λ (l : List WorthAmounts). AreRolled worth_columns c.args.tree.now l new) c.deref_mut-2.ensures.value c.roll.ensures in
    let long = length_rolled worth_columns c.args.tree.now old new rolled in
    let many = (c.loop-a.invariant 0).sums.one_each in
    let size = c.loop-a.sums.ok.0 in
    rw (take_at new (drop (length new) old) c.loop-a.sums.len (omega (arith, ap length c.deref_mut-2.ensures.value)))
    (sums_are worth_columns c.args.tree.now accounts (worth_at c.args.progress.now c.args.accounts.now c.args.entries.now) c.loop-a.a old new c.requires.on_tree (omega arith)
    c.loop-a.invariant rolled)
