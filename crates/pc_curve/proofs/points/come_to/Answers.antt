use Rattle.std.proofs.Common.{◌≡◌, ◌≤◌, ◌∙◌, true, true≢false, sym, arith}
use Rattle.pc_flow.specs.Courses.{lower_of}
use Rattle.pc_flow.specs.inside.Courses.{IsNext}
use Rattle.pc_flow.proofs.LookLaws.{same-stays, same-joins, further-stays, further-joins, looks-none, looks-join}
use Rattle.pc_curve.proofs.ComeLaws.{still-to_come, goes-on}
use Rattle.pc_curve.proofs.points.come_to.Goals as goal

pub loop-solver-init : goal.loop-solver-init
loop-solver-init g c = record {
  same = same-stays c.args.solver.now;
  further = further-stays c.args.solver.now;
  to_come = c.requires;
  counted = omega (arith, looks-none c.args.solver.now);
}

pub loop-solver-preserved : goal.loop-solver-preserved
loop-solver-preserved g c =
    let from = c.args.solver.now in
    let stop = c.loop-solver.solver in
    let next = c.next_segment.new.self in
    let so_far = c.loop-solver.invariant in
    let high : stop.given ≡ true → lower_of stop ≤ c.args.length → ⊥ =
    λ given low. true≢false (sym (c.is_as_low.ensures.low.1 (given, low)) ∙ c.loop-solver-test.true) in
    let goes : IsNext stop next =
    c.next_segment.ensures.next (goes-on stop c.args.length so_far.to_come high c.next_segment.result c.next_segment.ensures.ended) in
    record {
      same = same-joins from stop next so_far.same c.next_segment.ensures.same;
      further = further-joins from stop next so_far.further c.next_segment.ensures.further;
      to_come = still-to_come stop next c.args.length so_far.to_come c.is_as_low.ensures.level c.next_segment.ensures.same goes high;
      counted = looks-join from stop next so_far.same so_far.further c.next_segment.ensures.further _ _ _ so_far.counted c.next_segment.ensures.counted;
    }
