use Rattle.pc_net.specs.inside.Turns.{AreTurns}
use Rattle.pc_net.proofs.components.roots.Given as goal

abbrev pub invariant-loop-root : goal.invariant-loop-root
invariant-loop-root l = AreTurns l.graph.events l.stack.items
