use Rattle.std.proofs.Common.{◌<◌, length, arith}
use Rattle.pc_net.specs.declared.graph.Side.TheVariants.{Begins, Ends}
use Rattle.pc_net.proofs.SideLaws.{events_of_at, length-events_of}
use Rattle.pc_net.proofs.graph.Graph.build.Goals as goal

pub build-requires-clause-in_range : goal.build-requires-clause-in_range
build-requires-clause-in_range c = record {
  each = λ k below.
      let k_in : k < length c.args.arcs.now = omega (arith, length-events_of Begins c.args.arcs.now) in
      omega (arith, events_of_at Begins c.args.arcs.now k k_in, c.requires.in_range.from_in k k_in);
}

pub build-requires-2-clause-in_range : goal.build-requires-2-clause-in_range
build-requires-2-clause-in_range c = record {
  each = λ k below.
      let k_in : k < length c.args.arcs.now = omega (arith, length-events_of Ends c.args.arcs.now) in
      omega (arith, events_of_at Ends c.args.arcs.now k k_in, c.requires.in_range.to_in k k_in);
}
