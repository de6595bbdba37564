use Rattle.std.proofs.Common.{◌≡◌, ◌≢◌, ◌<◌, ◌≤◌, ◌⊎◌, ◌∙◌, true≢false, inl, inr, sym, subst, arith}
use Rattle.pc_flow.specs.Courses.{lower_of}
use Rattle.pc_flow.specs.inside.Courses.{present, HasEnded}
use Rattle.pc_curve.specs.inside.Points.{IsThere}
use Rattle.pc_flow.proofs.LookLaws.{same-joins, further-joins, looks-none, looks-join}
use Rattle.pc_curve.proofs.CurveLaws.{IsOnTheWay, way-begins, way-there, way-ends, ends-place, way-lower, way-goes_on, way-turns, turns-place}
use Rattle.pc_curve.proofs.breaks.next_turn.Goals.{else-slope-via-then-slope+else-upper-last, else-slope-via-else-slope}
use Rattle.pc_curve.proofs.breaks.next_turn.Goals as goal

pub loop-solver-init : goal.loop-solver-init
loop-solver-init g c =
    let from = c.args.solver.now in
    let priced = c.facts.ensures.priced in
    record {
      way = way-begins from c.args.last priced c.requires.place (c.facts.ensures.whole c.requires.place.given) c.facts.ensures.range;
      slope = c.slope-slope.ensures;
      counted = omega (arith, looks-none from);
    }

pub returns-then-upper-last-clause-next : goal.returns-then-upper-last-clause-next
returns-then-upper-last-clause-next g c =
    let from = c.args.solver.now in
    let priced = c.facts.ensures.priced in
    let stop = c.loop-solver.solver in
    let next = c.next_segment.new.self in
    let going : HasEnded stop → ⊥ = λ ended. true≢false (sym c.loop-solver-test.true ∙ c.next_segment.ensures.ended.1 ended) in
    let differ : (present stop).slope ≢ (present next).slope =
    λ same. omega (arith, c.if-slope.true, c.slope.ensures, c.loop-solver.invariant.slope, same) in
    let below : (present next).upper < c.args.last = omega (arith, c.if-upper-last.true, c.upper.ensures) in
    way-turns from c.args.last priced c.requires.place.within stop c.loop-solver.invariant.way next c.next_segment.ensures.same c.next_segment.ensures.further
    (c.next_segment.ensures.next c.loop-solver-test.true) going c.break_at_upper.result differ below (record {
      length = c.break_at_upper.ensures.length;
      cost = c.break_at_upper.ensures.cost;
      slope = c.break_at_upper.ensures.slope;
      flat = c.break_at_upper.ensures.flat;
    })

pub returns-then-upper-last-clause-counted : goal.returns-then-upper-last-clause-counted
returns-then-upper-last-clause-counted g c =
    let from = c.args.solver.now in
    let priced = c.facts.ensures.priced in
    let stop = c.loop-solver.solver in
    let next = c.next_segment.new.self in
    let going : HasEnded stop → ⊥ = λ ended. true≢false (sym c.loop-solver-test.true ∙ c.next_segment.ensures.ended.1 ended) in
    looks-join from stop next c.loop-solver.invariant.way.same c.loop-solver.invariant.way.further c.next_segment.ensures.further _ _ _
    c.loop-solver.invariant.counted c.next_segment.ensures.counted

pub returns-then-upper-last-clause-further : goal.returns-then-upper-last-clause-further
returns-then-upper-last-clause-further g c =
    further-joins c.args.solver.now c.loop-solver.solver c.next_segment.new.self c.loop-solver.invariant.way.further c.next_segment.ensures.further

pub loop-solver-smaller : goal.loop-solver-smaller
loop-solver-smaller g c =
    let from = c.args.solver.now in
    let priced = c.facts.ensures.priced in
    let stop = c.loop-solver.solver in
    let next = c.next_segment.new.self in
    let going : HasEnded stop → ⊥ = λ ended. true≢false (sym c.loop-solver-test.true ∙ c.next_segment.ensures.ended.1 ended) in
    way-lower from c.args.last priced c.requires.place.within stop c.loop-solver.invariant.way next c.next_segment.ensures.same c.next_segment.ensures.further
    (c.next_segment.ensures.next c.loop-solver-test.true) going

pub loop-solver-preserved : goal.loop-solver-preserved
loop-solver-preserved g c =
    let from = c.args.solver.now in
    let priced = c.facts.ensures.priced in
    let stop = c.loop-solver.solver in
    let next = c.next_segment.new.self in
    let way = c.loop-solver.invariant.way in
    let within = c.requires.place.within in
    let goes = c.next_segment.ensures.next c.loop-solver-test.true in
    let going : HasEnded stop → ⊥ = λ ended. true≢false (sym c.loop-solver-test.true ∙ c.next_segment.ensures.ended.1 ended) in
    let even : ((present stop).slope ≡ (present next).slope) ⊎ (c.args.last ≤ (present next).upper) =
    elim c.else-slope.branch [
      | else-slope-via-then-slope+else-upper-last w ↦ inr (omega (arith, w.if-upper-last.false, w.upper.ensures))
      | else-slope-via-else-slope w ↦ inl (omega (arith, w.if-slope.false, c.slope.ensures, c.loop-solver.invariant.slope))
    ] in
    record {
      way = way-goes_on from c.args.last priced within stop way next c.next_segment.ensures.same c.next_segment.ensures.further goes going even;
      slope = c.slope-slope-in-loop-solver.ensures;
      counted = looks-join from stop next way.same way.further c.next_segment.ensures.further _ _ _ c.loop-solver.invariant.counted
          c.next_segment.ensures.counted;
    }

pub break_at_lower-requires : goal.break_at_lower-requires
break_at_lower-requires g c =
    let from = c.args.solver.now in
    let priced = c.facts.ensures.priced in
    let stop = c.loop-solver.solver in
    let stays : c.next_segment.new.self ≡ stop = c.next_segment.ensures.unchanged c.loop-solver-test.false in
    subst (λ d. IsThere d (lower_of d)) (sym stays) (way-there from c.args.last priced c.requires.place.within stop c.loop-solver.invariant.way)

pub returns-clause-next : goal.returns-clause-next
returns-clause-next g c =
    let from = c.args.solver.now in
    let priced = c.facts.ensures.priced in
    let last = c.next_segment.new.self in
    let stays : last ≡ c.loop-solver.solver = c.next_segment.ensures.unchanged c.loop-solver-test.false in
    let way = subst (λ d. IsOnTheWay from c.args.last d) (sym stays) c.loop-solver.invariant.way in
    let ended = subst HasEnded (sym stays) (c.next_segment.ensures.ended.0 c.loop-solver-test.false) in
    way-ends from c.args.last priced c.requires.place.within last way c.break_at_lower.result ended c.requires.above (record {
      limit = c.break_at_lower.ensures.length;
      cost = c.break_at_lower.ensures.cost;
      slope = c.break_at_lower.ensures.slope;
    })

pub returns-clause-place : goal.returns-clause-place
returns-clause-place g c =
    let from = c.args.solver.now in
    let priced = c.facts.ensures.priced in
    let last = c.next_segment.new.self in
    let stays : last ≡ c.loop-solver.solver = c.next_segment.ensures.unchanged c.loop-solver-test.false in
    let way = subst (λ d. IsOnTheWay from c.args.last d) (sym stays) c.loop-solver.invariant.way in
    ends-place from c.args.last priced c.requires.place.within last way c.break_at_lower.result c.break_at_lower.ensures.length

pub returns-clause-counted : goal.returns-clause-counted
returns-clause-counted g c =
    let from = c.args.solver.now in
    let stop = c.loop-solver.solver in
    looks-join from stop c.next_segment.new.self c.loop-solver.invariant.way.same c.loop-solver.invariant.way.further c.next_segment.ensures.further _ _ _
    c.loop-solver.invariant.counted c.next_segment.ensures.counted

pub returns-clause-further : goal.returns-clause-further
returns-clause-further g c =
    further-joins c.args.solver.now c.loop-solver.solver c.next_segment.new.self c.loop-solver.invariant.way.further c.next_segment.ensures.further

pub break_at_upper-requires : goal.break_at_upper-requires
break_at_upper-requires g c = (c.next_segment.ensures.next c.loop-solver-test.true).given

pub returns-then-upper-last-clause-place : goal.returns-then-upper-last-clause-place
returns-then-upper-last-clause-place g c =
    let from = c.args.solver.now in
    let priced = c.facts.ensures.priced in
    let stop = c.loop-solver.solver in
    let next = c.next_segment.new.self in
    let going : HasEnded stop → ⊥ = λ ended. true≢false (sym c.loop-solver-test.true ∙ c.next_segment.ensures.ended.1 ended) in
    let below : (present next).upper < c.args.last = omega (arith, c.if-upper-last.true, c.upper.ensures) in
    turns-place from c.args.last priced c.requires.place.within stop c.loop-solver.invariant.way next c.next_segment.ensures.same c.next_segment.ensures.further
    (c.next_segment.ensures.next c.loop-solver-test.true) going c.break_at_upper.result below c.break_at_upper.ensures.length

pub returns-then-upper-last-clause-same : goal.returns-then-upper-last-clause-same
returns-then-upper-last-clause-same g c =
    same-joins c.args.solver.now c.loop-solver.solver c.next_segment.new.self c.loop-solver.invariant.way.same c.next_segment.ensures.same

pub returns-then-upper-last-clause-gentle : goal.returns-then-upper-last-clause-gentle
returns-then-upper-last-clause-gentle g c = c.next_segment.ensures.gentle

pub returns-clause-same : goal.returns-clause-same
returns-clause-same g c =
    same-joins c.args.solver.now c.loop-solver.solver c.next_segment.new.self c.loop-solver.invariant.way.same c.next_segment.ensures.same

pub returns-clause-gentle : goal.returns-clause-gentle
returns-clause-gentle g c = c.next_segment.ensures.gentle

pub slope-slope-requires : goal.slope-slope-requires
slope-slope-requires g c = c.requires.place.given

pub slope-requires : goal.slope-requires
slope-requires g c = (c.next_segment.ensures.next c.loop-solver-test.true).given

pub upper-requires : goal.upper-requires
upper-requires g c = (c.next_segment.ensures.next c.loop-solver-test.true).given

pub slope-slope-requires-in-loop-solver : goal.slope-slope-requires-in-loop-solver
slope-slope-requires-in-loop-solver g c = (c.next_segment.ensures.next c.loop-solver-test.true).given
