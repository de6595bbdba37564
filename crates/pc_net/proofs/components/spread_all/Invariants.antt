use Rattle.std.proofs.Common.{◌+◌, length}
use Rattle.pc_net.specs.inside.Labels.{AreSpreadLabels}
use Rattle.pc_net.specs.inside.Turns.{AreEvents}
use Rattle.pc_net.proofs.components.spread_all.Given as goal

abbrev pub invariant-loop-round : goal.invariant-loop-round
invariant-loop-round l = record {
  roots : AreEvents l.graph.events l.roots.items;
  spread : AreSpreadLabels l.graph (l.round + 1) l.reached.items l.labels.items (length l.reached.items);
}
