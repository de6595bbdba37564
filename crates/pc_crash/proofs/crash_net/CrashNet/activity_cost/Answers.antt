use Rattle.std.proofs.Common.{◌≡◌, ◌+◌, ◌<◌, ◌≤◌, length, ap, arith}
use Rattle.pc_model.specs.Cost.{activity_cost}
use Rattle.pc_crash.specs.inside.CrashNets.{priced_network}
use Rattle.pc_crash.specs.inside.KneeLists.{AreKneesOf}
use Rattle.pc_crash.specs.Priced.{knees_in}
use Rattle.pc_crash.proofs.CostLaws.{AreSmallKnees-of, price-of, activity_cost-most}
use Rattle.pc_crash.proofs.InsideLaws.{activity-read}
use Rattle.pc_crash.proofs.crash_net.CrashNet.activity_cost.Goals as goal

pub price_of-requires : goal.price_of-requires
price_of-requires c =
    let s = c.self.inside in
    let w = c.self.invariant.whole in
    let known : c.args.a < length s.net.now.arcs = omega (arith, ap (λ n. length n.network.arcs) c.self.view_is) in
    let read = activity-read s c.args.a c.index-row.result.now c.self.invariant known c.index-row.ensures in
    rw c.part.ensures (AreSmallKnees-of s.net.now (priced_network s).terms s.pieces.items w.terms w.limits w.pieces w.piece_limits c.args.a read.known _ read.knees)

-- what was added up is the activity's cost
summed : (c : goal.After-price_of) →
    (c.index-row.result.now.term.cost + c.price_of.result
    ≡ activity_cost c.args.self.now.terms (knees_in c.args.self.now) c.args.a c.args.duration)
    × (activity_cost c.args.self.now.terms (knees_in c.args.self.now) c.args.a c.args.duration ≤ 11000000000000)
summed c =
    let s = c.self.inside in
    let w = c.self.invariant.whole in
    let known : c.args.a < length s.net.now.arcs = omega (arith, ap (λ n. length n.network.arcs) c.self.view_is) in
    let read = activity-read s c.args.a c.index-row.result.now c.self.invariant known c.index-row.ensures in
    let knees : AreKneesOf (knees_in (priced_network s)) c.args.a c.part.result.now = rw c.part.ensures read.knees in
    rw (← c.self.view_is) (
      omega (
        arith,
        ap (λ term. term.cost) read.is.term,
        c.price_of.ensures,
        price-of s.net.now (priced_network s).terms s.pieces.items w.terms w.limits w.pieces w.piece_limits c.args.a read.known
            c.part.result.now c.args.duration knees,
      ),
      activity_cost-most s.net.now (priced_network s).terms s.pieces.items w.terms w.limits w.pieces w.piece_limits c.args.a read.known c.args.duration,
    )

pub overflow_add-result : goal.overflow_add-result
overflow_add-result c = omega (arith, (summed c).0, (summed c).1)

pub returns-clause-cost : goal.returns-clause-cost
returns-clause-cost c = (summed c).0

pub returns-clause-limit : goal.returns-clause-limit
returns-clause-limit c = omega (arith, (summed c).0, (summed c).1)
