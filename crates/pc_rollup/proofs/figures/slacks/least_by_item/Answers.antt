use Rattle.std.proofs.Common.{refl, w64, rules}
use Rattle.std.proofs.lemmas.Int.{to_z-of_z}
use mir.Val.{SFits}
use Rattle.pc_rollup.specs.inside.Totals.{placed_amount}
use Rattle.pc_rollup.proofs.LeastLaws.{AreLeastOn-more}
use Rattle.pc_rollup.proofs.figures.slacks.least_by_item.Goals as goal

pub loop-p-preserved : goal.loop-p-preserved
loop-p-preserved c =
    let fits : SFits w64 (placed_amount c.args.placed.now c.loop-p.p-index) = search rules in
    rw (c.lesser.ensures, to_z-of_z w64 (placed_amount c.args.placed.now c.loop-p.p-index) fits)
    (AreLeastOn-more _ _ c.loop-p.p-index _ _ c.index.result.now _ c.loop-p.invariant c.loop-p-test.true refl
    (c.requires.known c.loop-p.p-index c.loop-p-test.true) c.index.ensures refl)
