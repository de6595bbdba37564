use Rattle.std.proofs.Common.{◌<◌, arith}
use Rattle.std.proofs.lemmas.List.Elements.{All-push}
use Rattle.pc_net.specs.declared.components.Turn.TheVariants.{Enter, Finish}
use Rattle.pc_net.specs.inside.Turns.{event_of_turn}
use Rattle.pc_net.proofs.components.enter.Goals as goal

pub index-requires : goal.index-requires
index-requires c = omega (arith, c.requires.known, c.requires.sized)

pub returns-then-index-clause-turns : goal.returns-then-index-clause-turns
returns-then-index-clause-turns c = c.requires.turns

pub index_mut-requires : goal.index_mut-requires
index_mut-requires c = omega (arith, c.requires.known, c.requires.sized)

pub in_arcs-a-items-requires : goal.in_arcs-a-items-requires
in_arcs-a-items-requires c = c.requires.known

pub loop-a-init : goal.loop-a-init
loop-a-init c =
    rw c.in_ok-push.ensures.items (All-push (λ turn. event_of_turn turn < c.args.graph.now.events) _ (Finish c.args.event) c.requires.turns c.requires.known)

pub from-requires : goal.from-requires
from-requires c = (c.in_arcs-a-items.ensures.listed.each c.loop-a.a-index c.loop-a-test.true).0

pub loop-a-preserved : goal.loop-a-preserved
loop-a-preserved c =
    rw c.in_ok-push-2.ensures.items (All-push (λ turn. event_of_turn turn < c.args.graph.now.events) _ (Enter c.from.result) c.loop-a.invariant c.from.ensures.known)

pub returns-clause-turns : goal.returns-clause-turns
returns-clause-turns c = c.loop-a.invariant
