use Rattle.std.proofs.Common.{arith, ◌≡◌, refl}
use Rattle.std.specs.Prelude.{max, slice_index}
use Rattle.std.proofs.lemmas.Bool.Decides.{nat_tests}
use Rattle.pc_wbs.proofs.BuildLaws.{AreGreatest-more}
use Rattle.pc_wbs.proofs.levels.depth_of.Goals as goal

pub loop-level-preserved : goal.loop-level-preserved
loop-level-preserved c =
    let same : c.max-depth.result ≡ max c.loop-level.depth (slice_index c.args.levels.now c.loop-level.level-index) = grind (arith, nat_tests) in
    rw same (AreGreatest-more c.args.levels.now c.loop-level.level-index c.loop-level.depth _ c.loop-level.invariant refl)
