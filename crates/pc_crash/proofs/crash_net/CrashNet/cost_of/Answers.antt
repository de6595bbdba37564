use Rattle.std.proofs.Common.{length, slice_index, ap, subst, arith}
use Rattle.pc_crash.specs.inside.CrashNets.{IsWholeNetwork}
use Rattle.pc_crash.proofs.CostLaws.{costs-most}
use Rattle.pc_crash.proofs.crash_net.CrashNet.cost_of.Goals as goal

pub overflow_add-cost : goal.overflow_add-cost
overflow_add-cost c =
    let whole = subst IsWholeNetwork c.self.view_is c.self.invariant.whole in
    let same = ap (λ n. length n.network.arcs) c.self.view_is in
    omega (arith, whole.terms.one_each, whole.limits.few, costs-most c.args.self.now whole (slice_index c.args.durations.now) c.loop-a.a (omega (arith, whole.terms.one_each)))

pub returns-clause-limit : goal.returns-clause-limit
returns-clause-limit c =
    let whole = subst IsWholeNetwork c.self.view_is c.self.invariant.whole in
    let same = ap (λ n. length n.network.arcs) c.self.view_is in
    omega (arith, whole.terms.one_each, whole.limits.few, c.loop-a.invariant, costs-most c.args.self.now whole (slice_index c.args.durations.now) c.loop-a.a (omega (arith, whole.terms.one_each)))
