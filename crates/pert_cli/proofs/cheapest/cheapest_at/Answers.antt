use Rattle.std.proofs.Common.{length, ap, arith}
use Rattle.pc_crash.specs.Priced.{PricedNetwork}
use Rattle.pc_model.specs.Network.{Network}
use Rattle.pert_cli.proofs.cheapest.cheapest_at.Goals as goal

pub fill-cost-requires-clause-places : goal.fill-cost-requires-clause-places
fill-cost-requires-clause-places g c =
    let net = ap (λ (n : PricedNetwork). n.network) c.net.ensures in
    record {
      events = omega (
        arith,
        c.deref_mut.ensures.len,
        c.in_ok-times.ensures.len,
        c.events.ensures.events,
        ap (λ (n : Network). n.events) c.net-shape.ensures.network,
        ap (λ (n : Network). n.events) net,
      );
      activities = omega (
        arith,
        c.deref_mut-2.ensures.len,
        c.in_ok-durations.ensures.len,
        c.activities.ensures.activities,
        ap (λ (n : Network). length n.arcs) c.net-shape.ensures.network,
        ap (λ (n : Network). length n.arcs) net,
      );
    }
