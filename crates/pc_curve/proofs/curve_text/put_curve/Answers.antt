use Rattle.std.proofs.Common.{◌≡◌, ◌<◌, Some, refl, sym, ◌∙◌, ap, subst, arith}
use Rattle.pc_edges.specs.inside.page.Puts.{desk}
use Rattle.pc_flow.proofs.LookLaws.{further-stays, further-joins, looks-none, looks-join}
use Rattle.pc_curve.specs.Points.{curve_in}
use Rattle.pc_curve.specs.Breaks.{AreBreakpointsTo}
use Rattle.pc_curve.specs.CurveText.{curve_text}
use Rattle.pc_curve.specs.inside.Breaks.{StandsAt, StandsBy}
use Rattle.pc_curve.proofs.ListLaws.{list-whole}
use Rattle.pc_curve.proofs.TextLaws.{ArePutTo, still_to_come, fewer, put-begins, put-more}
use Rattle.pc_curve.proofs.curve_text.put_curve.Goals as goal

pub loop-point-init : goal.loop-point-init
loop-point-init g c = record {
  put = subst (λ last. ArePutTo c.args.solver.now last c.args.solver.now (desk g.O.Sink.taken g.O.Sink.faults c.args.page.now c.args.sink.now)
      (desk g.O.Sink.taken g.O.Sink.faults c.args.page.now c.args.sink.now)) (sym c.new-breaks.ensures)
      (put-begins c.args.solver.now (desk g.O.Sink.taken g.O.Sink.faults c.args.page.now c.args.sink.now) c.requires);
  further = further-stays c.args.solver.now;
  counted = omega (arith, looks-none c.args.solver.now);
}

pub loop-point-preserved : goal.loop-point-preserved
loop-point-preserved g c =
    let start = desk g.O.Sink.taken g.O.Sink.faults c.args.page.now c.args.sink.now in
    let here = desk g.O.Sink.taken g.O.Sink.faults c.loop-point.page c.loop-point.sink in
    let there = desk g.O.Sink.taken g.O.Sink.faults c.put_break.new.page c.put_break.new.sink in
    let so_far = c.loop-point.invariant in
    let place : StandsAt c.in-Some.point.length c.next.new.solver = subst (λ last. StandsBy last c.next.new.solver) c.in-Some.ensures.last c.in-Some.ensures.place in
    record {
      put = subst (λ last. ArePutTo c.args.solver.now last c.next.new.solver start there) (sym c.in-Some.ensures.last)
          (put-more c.args.solver.now c.loop-point.solver c.next.new.solver c.loop-point.breaks start here there c.in-Some.point so_far.put
          c.in-Some.ensures.next c.in-Some.ensures.same place c.put_break.ensures);
      further = further-joins c.args.solver.now c.loop-point.solver c.next.new.solver so_far.further c.in-Some.ensures.further;
      counted = looks-join c.args.solver.now c.loop-point.solver c.next.new.solver so_far.put.same so_far.further c.in-Some.ensures.further _ _ _ so_far.counted
          c.in-Some.ensures.counted;
    }

pub next-requires : goal.next-requires
next-requires g c = record { place = c.loop-point.invariant.put.place }

pub loop-point-smaller : goal.loop-point-smaller
loop-point-smaller g c =
    let place : StandsAt c.in-Some.point.length c.next.new.solver = subst (λ last. StandsBy last c.next.new.solver) c.in-Some.ensures.last c.in-Some.ensures.place in
    subst (λ last. still_to_come c.next.new.solver last < still_to_come c.loop-point.solver c.loop-point.breaks) (sym c.in-Some.ensures.last)
    (fewer c.loop-point.solver c.next.new.solver c.loop-point.breaks c.in-Some.point c.in-Some.ensures.next c.in-Some.ensures.same place)

pub returns-clause-text : goal.returns-clause-text
returns-clause-text g c =
    let from = c.args.solver.now in
    let put = c.loop-point.invariant.put in
    let last : c.loop-point.breaks ≡ Some from.shortest = c.in_default.ensures.ended.0 refl ∙ ap Some put.same.shortest in
    let level = c.facts.ensures.level c.requires in
    let whole = list-whole (curve_in from.net) from.shortest from.longest put.points (omega (arith, c.facts.ensures.range, level.upper, level.fall))
    (subst (λ end. AreBreakpointsTo (curve_in from.net) from.shortest from.longest end put.points) last put.breaks) in (
      curve_text put.points,
      record {
        longest = from.longest;
        shortest = from.shortest;
        all_normal = c.facts.ensures.all_normal;
        all_crash = c.facts.ensures.all_crash;
        points = put.points;
        breaks = whole;
        is = refl;
      },
      put.text,
    )

pub returns-clause-counted : goal.returns-clause-counted
returns-clause-counted g c =
    let on = c.loop-point.invariant in
    looks-join c.args.solver.now c.loop-point.solver c.next.new.solver on.put.same on.further c.next.ensures.further _ _ _ on.counted c.next.ensures.counted
