use Rattle.std.proofs.Common.{◌≡◌, ◌<◌, ◌≤◌, ◌∙◌, true≢false, inl, inr, sym, subst, arith}
use Rattle.std.proofs.lemmas.Bool.{cases_lt}
use Rattle.pc_flow.specs.inside.Courses.{HasEnded, present}
use Rattle.pc_flow.proofs.LookLaws.{same-joins, further-joins, looks-none, looks-join}
use Rattle.pc_total.specs.inside.Stops.{IsStop}
use Rattle.pc_total.proofs.WayLaws.{HasComeDown, IsNextDown, way-begins, ends-come, ends-stop, next-less, next-way, stop-come, stop-pays, pays-there}
use Rattle.pc_total.proofs.finding.come_down.Given.{Over}
use Rattle.pc_total.proofs.finding.come_down.Goals.{After-stop_in-stop, After-shortest}
use Rattle.pc_total.proofs.finding.come_down.Goals as goal

come_down : (g : Over) (c : After-stop_in-stop g) → IsNextDown c.args.solver.now c.loop-solver.solver c.next_segment.new.self
come_down g c = record {
  priced = c.facts.ensures.priced;
  same = c.next_segment.ensures.same;
  further = c.next_segment.ensures.further;
  next = c.next_segment.ensures.next c.loop-solver-test.true;
  going = λ ended. true≢false (sym c.loop-solver-test.true ∙ c.next_segment.ensures.ended.1 ended);
}

stops_there : (g : Over) (c : After-stop_in-stop g)
    → IsStop c.args.terms.now (present c.next_segment.new.self).lower (present c.next_segment.new.self).upper (present c.next_segment.new.self).slope c.stop_in-stop.result
stops_there g c = rw (c.lower-lower.ensures, c.upper-upper.ensures, c.slope-slope.ensures) at c.stop_in-stop.ensures

end_there : (g : Over) (c : After-shortest g) → HasComeDown c.args.terms.now c.args.solver.now c.next_segment.new.self c.loop-solver.gain × HasEnded c.next_segment.new.self
end_there g c =
    let stays : c.next_segment.new.self ≡ c.loop-solver.solver = c.next_segment.ensures.unchanged c.loop-solver-test.false in (
      subst (λ d. HasComeDown c.args.terms.now c.args.solver.now d c.loop-solver.gain) (sym stays) c.loop-solver.invariant.way,
      subst HasEnded (sym stays) (c.next_segment.ensures.ended.0 c.loop-solver-test.false),
    )

pub loop-solver-init : goal.loop-solver-init
loop-solver-init g c = record {
  way = way-begins c.args.terms.now c.args.solver.now c.requires.before;
  counted = omega (arith, looks-none c.args.solver.now);
}

pub loop-solver-smaller : goal.loop-solver-smaller
loop-solver-smaller g c =
    let from = c.args.solver.now in
    let terms = c.args.terms.now in
    let stop = c.loop-solver.solver in
    let next = c.next_segment.new.self in
    let down = come_down g (goal.at.loop-solver-smaller g c).After-stop_in-stop in
    next-less terms from stop c.loop-solver.gain c.loop-solver.invariant.way next down

pub loop-solver-preserved : goal.loop-solver-preserved
loop-solver-preserved g c =
    let from = c.args.solver.now in
    let terms = c.args.terms.now in
    let stop = c.loop-solver.solver in
    let next = c.next_segment.new.self in
    let at = goal.at.loop-solver-preserved g c in
    let down = come_down g at.After-stop_in-stop in
    let stops = stops_there g at.After-stop_in-stop in
    let under : c.stop_in-stop.result ≤ (present next).lower = omega (arith, c.if-stop-lower.false, c.lower-lower.ensures) in
    let so_far = c.loop-solver.invariant in
    record {
      way = subst (λ n. HasComeDown terms from next n) (sym c.slope-slope.ensures)
          (next-way terms from stop c.loop-solver.gain c.loop-solver.invariant.way next down c.stop_in-stop.result stops under);
      counted = looks-join from stop next so_far.way.same so_far.way.further c.next_segment.ensures.further _ _ _ so_far.counted c.next_segment.ensures.counted;
    }

pub slope-slope-requires : goal.slope-slope-requires
slope-slope-requires g c = (c.next_segment.ensures.next c.loop-solver-test.true).given

pub lower-lower-requires : goal.lower-lower-requires
lower-lower-requires g c = (c.next_segment.ensures.next c.loop-solver-test.true).given

pub upper-upper-requires : goal.upper-upper-requires
upper-upper-requires g c = (c.next_segment.ensures.next c.loop-solver-test.true).given

pub returns-then-stop-lower-clause-to_come : goal.returns-then-stop-lower-clause-to_come
returns-then-stop-lower-clause-to_come g c =
    let from = c.args.solver.now in
    let terms = c.args.terms.now in
    let stop = c.loop-solver.solver in
    let next = c.next_segment.new.self in
    let at = goal.at.returns-then-stop-lower-clause-to_come g c in
    let down = come_down g at.After-stop_in-stop in
    let stops = stops_there g at.After-stop_in-stop in
    stop-come terms from stop c.loop-solver.gain c.loop-solver.invariant.way next down c.stop_in-stop.result stops

pub returns-then-stop-lower-clause-pays : goal.returns-then-stop-lower-clause-pays
returns-then-stop-lower-clause-pays g c =
    let from = c.args.solver.now in
    let terms = c.args.terms.now in
    let stop = c.loop-solver.solver in
    let next = c.next_segment.new.self in
    let at = goal.at.returns-then-stop-lower-clause-pays g c in
    let down = come_down g at.After-stop_in-stop in
    let stops = stops_there g at.After-stop_in-stop in
    let over : (present next).lower < c.stop_in-stop.result = omega (arith, c.if-stop-lower.true, c.lower-lower.ensures) in
    let pays = stop-pays terms from stop c.loop-solver.gain c.loop-solver.invariant.way next down c.stop_in-stop.result stops over c.gain_at.result in
    rw c.slope-slope.ensures
    (pays-there terms from next c.stop_in-stop.result (present next).slope c.gain_at.result
    (same-joins from stop next c.loop-solver.invariant.way.same c.next_segment.ensures.same)
    (pays (λ inside. c.gain_at.ensures.inside (omega (arith, inside, c.upper-upper.ensures)) ∙ c.slope-slope.ensures)
    (λ at. c.gain_at.ensures.top (omega (arith, at, c.upper-upper.ensures)))))

pub returns-then-stop-lower-clause-small : goal.returns-then-stop-lower-clause-small
returns-then-stop-lower-clause-small g c = rw c.slope-slope.ensures (c.next_segment.ensures.next c.loop-solver-test.true).small.slope

pub returns-then-stop-lower-clause-small_gain : goal.returns-then-stop-lower-clause-small_gain
returns-then-stop-lower-clause-small_gain g c =
    let small = (c.next_segment.ensures.next c.loop-solver-test.true).small.slope in
    elim (cases_lt c.stop_in-stop.result c.upper-upper.result) [
      | inl inside ↦ omega (arith, c.gain_at.ensures.inside inside, c.slope-slope.ensures, small)
      | inr at ↦ omega (arith, c.gain_at.ensures.top at, c.loop-solver.invariant.way.small)
    ]

pub returns-then-stop-lower-clause-same : goal.returns-then-stop-lower-clause-same
returns-then-stop-lower-clause-same g c =
    same-joins c.args.solver.now c.loop-solver.solver c.next_segment.new.self c.loop-solver.invariant.way.same c.next_segment.ensures.same

pub returns-then-stop-lower-clause-further : goal.returns-then-stop-lower-clause-further
returns-then-stop-lower-clause-further g c =
    further-joins c.args.solver.now c.loop-solver.solver c.next_segment.new.self c.loop-solver.invariant.way.further c.next_segment.ensures.further

pub returns-then-stop-lower-clause-counted : goal.returns-then-stop-lower-clause-counted
returns-then-stop-lower-clause-counted g c =
    let so_far = c.loop-solver.invariant in
    looks-join c.args.solver.now c.loop-solver.solver c.next_segment.new.self so_far.way.same so_far.way.further c.next_segment.ensures.further _ _ _
    so_far.counted c.next_segment.ensures.counted

pub returns-clause-to_come : goal.returns-clause-to_come
returns-clause-to_come g c =
    let from = c.args.solver.now in
    let terms = c.args.terms.now in
    let last = c.next_segment.new.self in
    let (way, ended) = end_there g (goal.at.returns-clause-to_come g c).After-shortest in
    rw c.shortest.ensures.shortest (ends-come terms from last c.loop-solver.gain way ended)

pub returns-clause-pays : goal.returns-clause-pays
returns-clause-pays g c =
    let from = c.args.solver.now in
    let terms = c.args.terms.now in
    let last = c.next_segment.new.self in
    let (way, ended) = end_there g (goal.at.returns-clause-pays g c).After-shortest in
    let at = c.shortest.ensures.shortest ∙ way.same.shortest in
    rw at (pays-there terms from last from.shortest 0 c.loop-solver.gain way.same (ends-stop terms from last c.loop-solver.gain way ended))

pub returns-clause-small_gain : goal.returns-clause-small_gain
returns-clause-small_gain g c = c.loop-solver.invariant.way.small

pub returns-clause-same : goal.returns-clause-same
returns-clause-same g c =
    same-joins c.args.solver.now c.loop-solver.solver c.next_segment.new.self c.loop-solver.invariant.way.same c.next_segment.ensures.same

pub returns-clause-further : goal.returns-clause-further
returns-clause-further g c =
    further-joins c.args.solver.now c.loop-solver.solver c.next_segment.new.self c.loop-solver.invariant.way.further c.next_segment.ensures.further

pub returns-clause-counted : goal.returns-clause-counted
returns-clause-counted g c =
    let so_far = c.loop-solver.invariant in
    looks-join c.args.solver.now c.loop-solver.solver c.next_segment.new.self so_far.way.same so_far.way.further c.next_segment.ensures.further _ _ _
    so_far.counted c.next_segment.ensures.counted
