use Rattle.std.proofs.Common.{ℕ, length, subst, ap, arith}
use Rattle.pc_model.specs.Network.{Network}
use Rattle.pc_reports.specs.inside.OutlookText.{AreCostsIn}
use Rattle.pc_reports.proofs.OutlookLaws.{costs_more, costs_fit}
use Rattle.pc_reports.proofs.outlook_report.costs_in.Goals as goal

pub loop-a-preserved : goal.loop-a-preserved
loop-a-preserved c = costs_more _ _ _ _ _ _ c.loop-a.invariant c.in_ok-push.ensures.items c.activity_cost.ensures.cost c.activity_cost.ensures.limit

pub returns-clause-costs : goal.returns-clause-costs
returns-clause-costs c =
    let same = ap (λ (net : Network). length net.arcs) c.net.ensures.network in
    subst (λ (n : ℕ). AreCostsIn c.args.net.now c.args.durations.now n c.loop-a.costs.items) (omega (arith, same)) c.loop-a.invariant.are

pub returns-clause-fit : goal.returns-clause-fit
returns-clause-fit c = costs_fit c.args.net.now c.args.durations.now c.loop-a.a c.loop-a.costs.items (omega arith) c.loop-a.invariant
