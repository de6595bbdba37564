use Rattle.std.proofs.Common.{◌≡◌, vec_len}
use Rattle.pc_net.specs.inside.Turns.{AreEvents, AreTurns}
use Rattle.pc_net.proofs.components.take_turns.Given as goal

abbrev pub invariant-loop : goal.invariant-loop
invariant-loop l = record {
  turns : AreTurns l.graph.events l.stack.items;
  order : AreEvents l.graph.events l.order.items;
  sized : vec_len l.entered ≡ l.graph.events;
}
