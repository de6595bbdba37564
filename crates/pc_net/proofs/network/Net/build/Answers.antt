use Rattle.std.proofs.Common.{◌≡◌, length, sym, ap, subst, arith}
use Rattle.pc_model.specs.Network.{Network, IsInRange, IsSound, IsOrder}
use Rattle.pc_model.proofs.Walks.OrderLaws.{room_below}
use Rattle.pc_net.proofs.SearchLaws.{LiesOnCycle-from_cycle}
use Rattle.pc_net.proofs.SoundLaws.{IsSound-from_order, cycle_from_blocked}
use Rattle.pc_net.proofs.network.Net.build.Goals as goal

pub unreachable-requires : goal.unreachable-requires
unreachable-requires c =
    let net = c.in_ok-graph.graph in
    let is = c.in_ok-graph.ensures in
    let ranged : IsInRange net = subst IsInRange (sym is) c.requires.in_range in
    let known : net.events ≡ c.args.events = ap (λ (n : Network). n.events) is in
    let cycle = cycle_from_blocked net c.in_ok-order.order.items ranged c.in_ok-order.ensures.blocked (omega (arith, known, c.in_ok-order.order.ok.0, c.len.ensures)) in
    let none = rw c.in-None.is at c.in_ok-cycle.ensures in
    none _ (LiesOnCycle-from_cycle net.arcs cycle.0 cycle.1)

pub invariant_of-result : goal.invariant_of-result
invariant_of-result c =
    let net = c.in_ok-graph.graph in
    let is = c.in_ok-graph.ensures in
    let items = c.in_ok-order.order.items in
    let part = c.in_ok-order.ensures.part in
    let ranged : IsInRange net = subst IsInRange (sym is) c.requires.in_range in
    let known : net.events ≡ c.args.events = ap (λ (n : Network). n.events) is in
    let whole : length items ≡ net.events = omega (arith, known, c.in_ok-order.order.ok.0, c.len.ensures, room_below items net.events part.range part.once) in
    let order : IsOrder net items = record { part = part; whole = whole } in
    let firm = c.in_ok-check.ensures.firm in
    record { in_range = ranged; sound = IsSound-from_order net items ranged order firm.none_dangles firm.not_entered firm.not_left; order = order }

pub returns-clause-sound : goal.returns-clause-sound
returns-clause-sound c = subst IsSound c.in_ok-graph.ensures (invariant_of-result c).sound
