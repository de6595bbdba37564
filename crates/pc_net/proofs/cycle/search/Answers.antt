use Rattle.std.proofs.Common.{arith}
use Rattle.pc_net.proofs.SearchLaws.{IsSearchBack-short}
use Rattle.pc_net.proofs.cycle.search.Goals as goal

pub loop-at-smaller : goal.loop-at-smaller
loop-at-smaller c =
    omega (arith, IsSearchBack-short c.args.graph.now c.args.a c.loop-at.steps.items c.loop-at.ranks.items c.loop-at.at c.loop-at.invariant.1, c.loop-at.steps.ok.0, c.len.ensures)
