use Rattle.std.proofs.Common.{◌-◌}
use Rattle.pc_net.specs.inside.Labels.{AreSpreadLabels}
use Rattle.pc_net.proofs.components.spread.Given as goal

abbrev pub invariant-loop-at : goal.invariant-loop-at
invariant-loop-at l = AreSpreadLabels l.graph l.label l.reached.items l.labels.items l.at

abbrev pub decreases-loop-at : goal.decreases-loop-at
decreases-loop-at l = l.graph.events - l.at
