use Rattle.std.proofs.Common.{refl}
use Rattle.pc_wbs.proofs.BuildLaws.{IsLeastBelow-more}
use Rattle.pc_wbs.proofs.loops.least.Goals as goal

pub loop-item-preserved : goal.loop-item-preserved
loop-item-preserved c =
    rw c.lesser-least.ensures (IsLeastBelow-more c.args.ends.now c.loop-item.item c.loop-item.least _ c.loop-item.invariant refl)
