use Rattle.std.proofs.Common.{◌+◌, ap, arith}
use Rattle.pc_curve.specs.declared.bench.deck.BenchActivity.{BenchActivity}
use Rattle.pc_curve.proofs.lemmas.bench.ActivityLaws.{one-card-more, cost-small, one-cost-more}
use Rattle.pc_curve.proofs.bench.deck.write_activities.Goals as goal

pub loop-k-preserved : goal.loop-k-preserved
loop-k-preserved c =
    let n = c.args.n in
    let k = c.loop-k.k in
    let drawn = c.draw_activity-activity.ensures.activity in
    record {
      draws = c.draw_activity-activity.ensures.draws;
      text = one-card-more n k _ _ _ _ c.loop-k.invariant.text c.in_ok-write_activity.ensures drawn;
      costs = one-cost-more n k _ _ c.loop-k.invariant.costs drawn;
      small = omega (arith, c.loop-k.invariant.small, cost-small n (k + 1), ap (λ (a : BenchActivity). a.cost) drawn);
    }
