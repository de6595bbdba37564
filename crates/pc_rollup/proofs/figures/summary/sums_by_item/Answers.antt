use Rattle.std.proofs.Common.{List, drop, length, ap, subst, arith}
use Rattle.std.proofs.Math.Seq.{take_at}
use Rattle.pc_accounts.specs.Amounts.{item_of}
use Rattle.pc_rollup.specs.figures.Figures.{account_summary_at}
use Rattle.pc_rollup.proofs.lemmas.figures.AmountLaws.{summary_fits}
use Rattle.pc_rollup.specs.declared.figures.summary.SummaryAmounts.{SummaryAmounts}
use Rattle.pc_rollup.specs.inside.Amounts.{AreRolled}
use Rattle.pc_rollup.specs.inside.figures.Columns.{summary_columns}
use Rattle.pc_rollup.proofs.ColumnLaws.{can_roll, can_take, length_rolled, summed_none, taken_from, zeros_at}
use Rattle.pc_rollup.proofs.lemmas.figures.SumLaws.{sums_are}
use Rattle.pc_rollup.proofs.figures.summary.sums_by_item.Goals as goal

pub loop-a-init : goal.loop-a-init
loop-a-init c =
    let made = c.in_ok-sums.ensures.items_if_clones_equal (λ y e. e) in
    rw (made, c.len.ensures.len) (summed_none summary_columns (item_of c.args.accounts.now) (account_summary_at c.args.entries.now)
    (length c.args.accounts.now) (length c.args.tree.now) _ (zeros_at 5))

pub add_at-requires : goal.add_at-requires
add_at-requires c =
    let accounts = c.args.accounts.now in
    rw (c.deref_mut.ensures.value, c.of.ensures) (can_take summary_columns (item_of accounts) (account_summary_at c.args.entries.now)
    (length accounts) (length c.args.tree.now) c.loop-a.a c.loop-a.sums.items
    (summary_fits (item_of accounts) c.args.entries.now (length accounts) c.requires.small c.requires.one_each) c.loop-a-test.true
    (c.requires.on_tree.known c.loop-a.a c.loop-a-test.true) c.loop-a.invariant)

pub loop-a-preserved : goal.loop-a-preserved
loop-a-preserved c =
    let accounts = c.args.accounts.now in
    let size = c.loop-a.sums.ok.0 in
    taken_from summary_columns (item_of accounts) (account_summary_at c.args.entries.now) (length accounts) (length c.args.tree.now) c.loop-a.a c.loop-a.sums.len c.loop-a.sums.items
    c.deref_mut.result.now c.add_at.new.items c.of.result c.loop-a-test.true (c.requires.on_tree.known c.loop-a.a c.loop-a-test.true)
    c.loop-a.invariant c.deref_mut.ensures.value c.of.ensures (omega arith) c.add_at.ensures

pub roll-requires : goal.roll-requires
roll-requires c =
    let accounts = c.args.accounts.now in
    rw c.deref_mut-2.ensures.value (can_roll summary_columns (item_of accounts) (account_summary_at c.args.entries.now)
    (length accounts) c.args.tree.now c.requires.on_tree.known c.requires.on_tree.leaves
    c.loop-a.a c.loop-a.sums.items (summary_fits (item_of accounts) c.args.entries.now (length accounts) c.requires.small c.requires.one_each) (omega arith) c.loop-a.invariant)

pub returns : goal.returns
returns c =
    let accounts = c.args.accounts.now in
    let old = c.loop-a.sums.items in
    let new = c.roll.new.amounts in
    let rolled = subst (λ (l : List SummaryAmounts). AreRolled summary_columns c.args.tree.now l new) c.deref_mut-2.ensures.value c.roll.ensures in
    let long = length_rolled summary_columns c.args.tree.now old new rolled in
    let many = (c.loop-a.invariant 0).sums.one_each in
    let size = c.loop-a.sums.ok.0 in
    rw (take_at new (drop (length new) old) c.loop-a.sums.len (omega (arith, ap length c.deref_mut-2.ensures.value)))
    (sums_are summary_columns c.args.tree.now accounts (account_summary_at c.args.entries.now) c.loop-a.a old new c.requires.on_tree (omega arith) c.loop-a.invariant rolled)
