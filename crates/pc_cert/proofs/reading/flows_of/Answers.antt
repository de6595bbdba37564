use Rattle.std.proofs.Common.{◌≢◌, ◌<◌, length, sym, arith}
use Rattle.pc_cert.proofs.FlowsLemmas.{begun, more}
use Rattle.pc_cert.proofs.reading.flows_of.Goals as goal

pub loop-rest-preserved : goal.loop-rest-preserved
loop-rest-preserved c =
    let some : length c.loop-rest.rest.now ≢ 0 = λ e. grind arith in
    let few : length c.loop-rest.flows < 6 = grind arith in
    rw c.push.ensures (more (c.in_ok-flow.flow, c.in_ok-flow.behind.now) c.loop-rest.invariant few some (sym c.in_ok-flow.ensures))

pub loop-rest-init : goal.loop-rest-init
loop-rest-init c = rw c.new-flows.ensures (begun c.args.fields.now)
