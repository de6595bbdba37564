use Rattle.std.proofs.Common.{◌-◌, slice_index, refl, ap, arith}
use Rattle.pc_net.proofs.SearchLaws.{IsWayBack-step}
use Rattle.pc_net.proofs.cycle.round.Goals as goal

pub loop-rank-smaller : goal.loop-rank-smaller
loop-rank-smaller c =
    let step = slice_index c.args.steps.now (c.loop-rank.rank - 1) in
    let more = IsWayBack-step c.args.graph.now c.args.a c.args.steps.now c.args.ranks.now c.loop-rank.cycle.items c.loop-rank.rank step _
    c.requires.searched c.loop-rank.invariant c.loop-rank-test.true (c.loop-rank.rank - 1) (omega arith) refl
    (ap (slice_index c.args.ranks.now) c.to-in-loop-rank.ensures.event) in
    omega (arith, more.1)

pub loop-rank-preserved : goal.loop-rank-preserved
loop-rank-preserved c =
    let step = slice_index c.args.steps.now (c.loop-rank.rank - 1) in
    let more = IsWayBack-step c.args.graph.now c.args.a c.args.steps.now c.args.ranks.now c.loop-rank.cycle.items c.loop-rank.rank step _
    c.requires.searched c.loop-rank.invariant c.loop-rank-test.true (c.loop-rank.rank - 1) (omega arith) refl
    (ap (slice_index c.args.ranks.now) c.to-in-loop-rank.ensures.event) in
    rw c.in_ok-push-2.ensures.items more.0
