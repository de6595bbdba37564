use Rattle.std.proofs.Common.{ℕ, List, ℤ, length, sym, subst, ◌≡◌}
use Rattle.pc_rollup.specs.inside.Totals.{ArePlacedSums}
use Rattle.pc_rollup.proofs.PlacedLaws.{amounts_at_leaves, totals_are}
use Rattle.pc_rollup.proofs.lemmas.figures.PushLaws.{if_answered}
use Rattle.pc_rollup.proofs.totals.totals_of.Goals as goal

-- the amounts as they are borrowed
lent : (items rows : ℕ) (amounts read : List ℤ) (P : ℕ → List ℤ → Type 0) → items ≡ rows → read ≡ amounts → P items amounts → P rows read
lent items rows amounts read P count same sums = subst (λ (xs : List ℤ). P rows xs) (sym same) (subst (λ (n : ℕ). P n amounts) count sums)

pub rollup-requires-clause-at_leaves : goal.rollup-requires-clause-at_leaves
rollup-requires-clause-at_leaves c =
    amounts_at_leaves c.args.tree.now c.args.placed.now c.deref.result.now c.requires.on_leaves
    (lent c.len.result (length c.args.tree.now) c.in_ok-amounts.amounts.items c.deref.result.now
    (λ n xs. ArePlacedSums n c.args.placed.now (length c.args.placed.now) xs) c.len.ensures.len c.deref.ensures.value
    c.in_ok-amounts.ensures.amounts)

pub returns-clause-totals : goal.returns-clause-totals
returns-clause-totals c =
    let sums = lent c.len.result (length c.args.tree.now) c.in_ok-amounts.amounts.items c.deref.result.now
    (λ n xs. ArePlacedSums n c.args.placed.now (length c.args.placed.now) xs) c.len.ensures.len c.deref.ensures.value
    c.in_ok-amounts.ensures.amounts in
    if_answered c.rollup.result _ _ (λ totals rolled. totals_are c.args.tree.now c.args.placed.now c.deref.result.now totals.items c.requires.on_leaves sums rolled) c.rollup.ensures

pub returns-clause-rolled : goal.returns-clause-rolled
returns-clause-rolled c =
    if_answered c.rollup.result _ _ (λ totals rolled. (c.deref.result.now, rolled)) c.rollup.ensures
