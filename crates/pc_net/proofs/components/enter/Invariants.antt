use Rattle.pc_net.specs.inside.Turns.{AreTurns}
use Rattle.pc_net.proofs.components.enter.Given as goal

abbrev pub invariant-loop-a : goal.invariant-loop-a
invariant-loop-a l = AreTurns l.graph.events l.stack.items
