use Rattle.std.proofs.Common.{below_more, arith}
use Rattle.pc_model.specs.Network.{IsDangling}
use Rattle.pc_net.proofs.refusal.dangling.Goals as goal

pub returns-then-is_dangling : goal.returns-then-is_dangling
returns-then-is_dangling c = record {
  holds = (omega (arith, c.events-event-end.ensures.events), c.if-is_dangling.ensures);
  first = λ e before dangles. c.loop-event.invariant e before dangles.1;
}

pub loop-event-preserved : goal.loop-event-preserved
loop-event-preserved c = below_more (λ e. IsDangling c.args.graph.now e → ⊥) _ c.loop-event.invariant c.if-is_dangling.ensures

pub returns : goal.returns
returns c = λ e dangles. c.loop-event.invariant e (omega (arith, dangles.0, c.events-event-end.ensures.events)) dangles.1
