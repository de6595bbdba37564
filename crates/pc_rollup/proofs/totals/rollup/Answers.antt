use Rattle.std.proofs.Common.{◌≡◌, List, drop, length, sym, ap, subst, ◌∙◌, arith}
use Rattle.std.specs.Prelude.{ℤ}
use Rattle.std.proofs.Math.Seq.{take_at}
use Rattle.pc_rollup.specs.inside.Amounts.{AreRolled}
use Rattle.pc_rollup.specs.inside.Totals.{AreRolledUp}
use Rattle.pc_rollup.proofs.ColumnLaws.{plain, plain_can_roll, plain_rolled}
use Rattle.pc_rollup.proofs.totals.rollup.Goals as goal

pub roll-requires : goal.roll-requires
roll-requires c =
    rw (c.deref_mut.ensures.value, c.in_ok-totals.ensures.items) (plain_can_roll c.args.tree.now c.args.leaf_amounts.now c.requires.one_each c.requires.at_leaves c.requires.small)

pub returns : goal.returns
returns c =
    let tree = c.args.tree.now in
    let new = c.roll.new.amounts in
    let same : c.deref_mut.result.now ≡ c.args.leaf_amounts.now = c.deref_mut.ensures.value ∙ c.in_ok-totals.ensures.items in
    let rolled = plain_rolled tree c.args.leaf_amounts.now new (subst (λ (l : List ℤ). AreRolled plain tree l new) same c.roll.ensures) in
    let long = c.deref_mut.ensures.len in
    subst (AreRolledUp tree c.args.leaf_amounts.now)
    (sym (take_at new (drop (length new) c.in_ok-totals.totals.items) c.in_ok-totals.totals.len (omega (arith, rolled.one_each, c.requires.one_each, ap (λ (l : List ℤ). length l) same))))
    rolled
