use Rattle.std.proofs.Common.{◌-◌}
use Rattle.pc_net.specs.inside.Queue.{IsQueue}
use Rattle.pc_net.proofs.ordering.ordered.Given as goal

abbrev pub invariant-loop-at : goal.invariant-loop-at
invariant-loop-at l = IsQueue l.graph l.order.items l.missing.items l.at

abbrev pub decreases-loop-at : goal.decreases-loop-at
decreases-loop-at l = l.graph.events - l.at
