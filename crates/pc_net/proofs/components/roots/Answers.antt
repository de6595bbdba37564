use Rattle.std.proofs.Common.{◌<◌, arith}
use Rattle.std.proofs.lemmas.List.Elements.{All-push}
use Rattle.pc_net.specs.declared.components.Turn.TheVariants.{Enter}
use Rattle.pc_net.specs.inside.Turns.{event_of_turn}
use Rattle.pc_net.proofs.components.roots.Goals as goal

pub loop-root-preserved : goal.loop-root-preserved
loop-root-preserved c =
    rw c.in_ok-push.ensures.items (All-push (λ turn. event_of_turn turn < c.args.graph.now.events) _ (Enter c.loop-root.root) c.loop-root.invariant (omega arith))
