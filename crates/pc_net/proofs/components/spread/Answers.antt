use Rattle.std.proofs.Common.{arith}
use Rattle.pc_net.proofs.LabelLaws.{AreSpreadLabels-short}
use Rattle.pc_net.proofs.components.spread.Goals as goal

pub loop-at-smaller : goal.loop-at-smaller
loop-at-smaller c =
    omega (arith, AreSpreadLabels-short c.args.graph.now c.args.label c.loop-at.reached.items c.loop-at.labels.items c.loop-at.at c.loop-at.invariant, c.loop-at.reached.ok.0, c.len.ensures)
