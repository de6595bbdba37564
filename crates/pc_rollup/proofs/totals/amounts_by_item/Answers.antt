use Rattle.std.proofs.Common.{◌≡◌, length, refl, subst, arith}
use Rattle.std.specs.Prelude.{unsigned_abs}
use Rattle.std.proofs.lemmas.List.Sums.{sum_by-take-le}
use Rattle.pc_rollup.specs.declared.totals.Placed.{Placed}
use Rattle.pc_rollup.specs.inside.Totals.{ArePlacedSums}
use Rattle.pc_rollup.proofs.PlacedLaws.{placed_taken}
use Rattle.pc_rollup.proofs.totals.amounts_by_item.Goals as goal

pub loop-p-preserved : goal.loop-p-preserved
loop-p-preserved c =
    placed_taken _ _ c.loop-p.p-index _ _ c.index_mut.result.now _ c.loop-p.invariant c.requires.small c.loop-p-test.true refl
    (c.requires.known c.loop-p.p-index c.loop-p-test.true) c.index_mut.ensures.value refl

pub index_mut-requires : goal.index_mut-requires
index_mut-requires c = omega (arith, c.loop-p.invariant.sums.one_each, c.requires.known c.loop-p.p-index c.loop-p-test.true)

pub returns-clause-amounts : goal.returns-clause-amounts
returns-clause-amounts c =
    let placed = c.args.placed.now in
    let all : c.loop-p.p-index ≡ length placed = omega arith in
    subst (λ n. ArePlacedSums c.args.items placed n c.loop-p.amounts.items) all c.loop-p.invariant.sums

pub returns-clause-small : goal.returns-clause-small
returns-clause-small c =
    omega (
      arith,
      c.requires.small,
      c.loop-p.invariant.small,
      sum_by-take-le (λ (p : Placed). unsigned_abs p.amount) c.args.placed.now c.loop-p.p-index,
    )
