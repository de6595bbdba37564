use Rattle.std.proofs.Common.{◌<◌, ◌+◌, List, Bool, false, drop, length, slice_index, sym, ap, ◌∙◌, subst, ℕ, arith}
use Rattle.std.proofs.Math.Seq.{take_at}
use Rattle.std.proofs.lemmas.List.{get_or_default, length-map}
use Rattle.pc_model.proofs.Sums.{sum_to-bound}
use Rattle.pc_accounts.specs.Amounts.{item_of}
use Rattle.pc_accounts.specs.Entries.{entry_at}
use Rattle.pc_rollup.specs.declared.figures.outlook.OutlookAmounts.{OutlookAmounts}
use Rattle.pc_rollup.specs.inside.Amounts.{AreRolled, CanTake, HaveTaken}
use Rattle.pc_rollup.specs.inside.figures.OutlookParts.{AreMarked, account_outlook, outlook_columns}
use Rattle.pc_rollup.proofs.ColumnLaws.{length_rolled, length_taken, summed_none, zeros_at}
use Rattle.pc_rollup.proofs.lemmas.figures.OutlookLaws.{account_taken, account_takes, activity_taken, activity_takes, added, added_fits, all_roll, outlooks_are, place_added}
use Rattle.pc_rollup.proofs.figures.outlook.sums_by_item.Goals as goal

pub loop-b-init : goal.loop-b-init
loop-b-init c =
    let made = c.in_ok-sums.ensures.items_if_clones_equal (λ y e. e) in
    rw (made, c.len-2.ensures.len) (summed_none outlook_columns (place_added c.in_ok-marks.marks.items c.args.places.now (slice_index c.args.costs.now) c.args.accounts.now c.args.entries.now)
    (added c.in_ok-marks.marks.items c.args.places.now (slice_index c.args.costs.now) c.args.accounts.now c.args.entries.now)
    (length c.args.accounts.now + length c.args.places.now) (length c.args.tree.now) _ (zeros_at 3))

pub add_at-requires : goal.add_at-requires
add_at-requires c =
    let x = item_of c.args.accounts.now c.loop-b.b in
    let known : x < length c.in_ok-marks.marks.items = omega (arith, c.requires.on_tree.known c.loop-b.b c.loop-b-test.true, c.in_ok-marks.ensures.one_each, c.len.ensures.len) in
    let read = c.index.ensures ∙ get_or_default c.in_ok-marks.marks.items x c.index.result.now false known in
    let is = c.of_account.ensures ∙ ap (λ (b : Bool). account_outlook b (entry_at c.args.entries.now c.loop-b.b)) read in
    subst (λ (more : OutlookAmounts). CanTake outlook_columns c.deref_mut.result.now x more) (sym is)
    (rw c.deref_mut.ensures.value (account_takes c.in_ok-marks.marks.items c.args.places.now (slice_index c.args.costs.now) c.args.accounts.now c.args.entries.now
    c.args.tree.now c.requires.on_tree c.requires.work_on_leaves c.loop-b.b c.loop-b.sums.items
    (added_fits c.in_ok-marks.marks.items c.args.places.now (slice_index c.args.costs.now) c.args.accounts.now c.args.entries.now c.requires.small c.requires.one_each
    c.requires.costs_fit) c.loop-b-test.true c.loop-b.invariant))

pub loop-b-preserved : goal.loop-b-preserved
loop-b-preserved c =
    let x = item_of c.args.accounts.now c.loop-b.b in
    let known : x < length c.in_ok-marks.marks.items = omega (arith, c.requires.on_tree.known c.loop-b.b c.loop-b-test.true, c.in_ok-marks.ensures.one_each, c.len.ensures.len) in
    let read = c.index.ensures ∙ get_or_default c.in_ok-marks.marks.items x c.index.result.now false known in
    let is = c.of_account.ensures ∙ ap (λ (b : Bool). account_outlook b (entry_at c.args.entries.now c.loop-b.b)) read in
    let old = c.loop-b.sums.items in
    let new = c.add_at.new.items in
    let took = subst (λ (more : OutlookAmounts). HaveTaken outlook_columns old x more new) is
    (subst (λ (l : List OutlookAmounts). HaveTaken outlook_columns l x c.of_account.result new) c.deref_mut.ensures.value c.add_at.ensures) in
    let long = length_taken outlook_columns old new _ _ took in
    let size = c.loop-b.sums.ok.0 in
    rw (take_at new (drop (length new) old) c.loop-b.sums.len (omega arith))
    (account_taken c.in_ok-marks.marks.items c.args.places.now (slice_index c.args.costs.now) c.args.accounts.now c.args.entries.now
    c.args.tree.now c.requires.on_tree c.requires.work_on_leaves c.loop-b.b old new c.loop-b-test.true c.loop-b.invariant took)

pub of_activity-requires : goal.of_activity-requires
of_activity-requires c =
    omega (arith, sum_to-bound (length c.args.places.now) (slice_index c.args.costs.now) c.loop-a.a c.loop-a-test.true, c.requires.costs_fit)

pub add_at-requires-in-loop-a : goal.add_at-requires-in-loop-a
add_at-requires-in-loop-a c =
    let x = slice_index c.args.places.now c.loop-a.a in
    subst (λ (more : OutlookAmounts). CanTake outlook_columns c.deref_mut-in-loop-a.result.now x more) (sym c.of_activity.ensures)
    (rw c.deref_mut-in-loop-a.ensures.value (activity_takes c.in_ok-marks.marks.items c.args.places.now (slice_index c.args.costs.now) c.args.accounts.now c.args.entries.now
    c.args.tree.now c.requires.on_tree c.requires.work_on_leaves c.loop-a.a c.loop-a.sums.items
    (added_fits c.in_ok-marks.marks.items c.args.places.now (slice_index c.args.costs.now) c.args.accounts.now c.args.entries.now c.requires.small c.requires.one_each
    c.requires.costs_fit) c.loop-a-test.true c.loop-a.invariant))

pub loop-a-preserved : goal.loop-a-preserved
loop-a-preserved c =
    let x = slice_index c.args.places.now c.loop-a.a in
    let old = c.loop-a.sums.items in
    let new = c.add_at-in-loop-a.new.items in
    let took = subst (λ (more : OutlookAmounts). HaveTaken outlook_columns old x more new) c.of_activity.ensures
    (subst (λ (l : List OutlookAmounts). HaveTaken outlook_columns l x c.of_activity.result new) c.deref_mut-in-loop-a.ensures.value c.add_at-in-loop-a.ensures) in
    let long = length_taken outlook_columns old new _ _ took in
    let size = c.loop-a.sums.ok.0 in
    rw (take_at new (drop (length new) old) c.loop-a.sums.len (omega arith))
    (activity_taken c.in_ok-marks.marks.items c.args.places.now (slice_index c.args.costs.now) c.args.accounts.now c.args.entries.now
    c.args.tree.now c.requires.on_tree c.requires.work_on_leaves c.loop-a.a old new c.loop-a-test.true c.loop-a.invariant took)

pub roll-requires : goal.roll-requires
roll-requires c =
    rw c.deref_mut-2.ensures.value (all_roll c.in_ok-marks.marks.items c.args.places.now (slice_index c.args.costs.now) c.args.accounts.now c.args.entries.now
    c.args.tree.now c.requires.on_tree c.requires.work_on_leaves c.loop-a.a c.loop-a.sums.items
    (added_fits c.in_ok-marks.marks.items c.args.places.now (slice_index c.args.costs.now) c.args.accounts.now c.args.entries.now c.requires.small c.requires.one_each
    c.requires.costs_fit) (omega arith) c.loop-a.invariant)

pub returns : goal.returns
returns c =
    let places = c.args.places.now in
    let old = c.loop-a.sums.items in
    let new = c.roll.new.amounts in
    let are = subst (λ (n : ℕ). AreMarked n places (length places) c.in_ok-marks.marks.items) c.len.ensures.len c.in_ok-marks.ensures in
    let rolled = subst (λ (l : List OutlookAmounts). AreRolled outlook_columns c.args.tree.now l new) c.deref_mut-2.ensures.value c.roll.ensures in
    let long = length_rolled outlook_columns c.args.tree.now old new rolled in
    let many = (c.loop-a.invariant 0).sums.one_each in
    let size = c.loop-a.sums.ok.0 in
    let as_many = length-map old (λ (a : OutlookAmounts). a.budget) in
    rw (take_at new (drop (length new) old) c.loop-a.sums.len (omega (arith, ap length c.deref_mut-2.ensures.value)))
    (outlooks_are c.in_ok-marks.marks.items c.args.places.now (slice_index c.args.costs.now) c.args.accounts.now c.args.entries.now
    c.args.tree.now c.requires.on_tree c.requires.work_on_leaves c.loop-a.a old new (omega arith) are c.loop-a.invariant rolled)
