-- What is read from a right segment is right at every length between its ends, and its slope is the cut gain.
use Rattle.std.proofs.Common.{◌≡◌, ℕ, ◌+◌, ◌-◌, ◌*◌, ◌<◌, ◌≤◌, Bool, true, false, not, ◌&&◌, if◌then◌else◌, List, length, inl, inr, refl, ap, sym, subst, arith}
use Rattle.std.specs.Prelude.{nat_lt}
use Rattle.std.proofs.lemmas.Bool.{cases_lt, lt-ltb, le-ltb, and_left, and_right, cond-true, cond-false}
use Rattle.std.proofs.lemmas.Int.{ints}
use Rattle.std.proofs.Math.Nat.{mul-add, mul_comm}
use Rattle.pc_model.specs.declared.Term.{Term}
use Rattle.pc_model.specs.Sums.{sum_to}
use Rattle.pc_model.specs.Walk.{from_of, to_of}
use Rattle.pc_model.specs.Network.{Network}
use Rattle.pc_model.specs.Schedule.{IsSchedule, lesser_of}
use Rattle.pc_model.specs.Cost.{Knees, activity_cost, cost_of, IsPriced}
use Rattle.pc_laws.specs.Flow.{whole_flow, IsFlow, promise}
use Rattle.pc_laws.specs.Tight.{IsSlackAtKnee, IsTight, AreTight}
use Rattle.pc_laws.specs.Segment.{Segment, span, fall_of, times_for, durations_for, cost_for, head_at, tail_at, IsStill}
use Rattle.pc_laws.specs.Segment.{IsRightSegment, is_forward, is_backward, rises_above, forward_rises, backward_rises, IsRight}
use Rattle.pc_model.proofs.Sums.{sum_to-same, sum_to-zero}
use Rattle.pc_laws.proofs.Flows.Balance.{crossing}
use Rattle.pc_laws.proofs.Flows.Duality.{weak_duality, tight_schedule, tight_promise}
use Rattle.pc_laws.proofs.Segments.Falls.{side, fall_of-zero, tight_between, tight_shifted, falls_along}

-- The cut

-- at a knee that a shrinking gap leaves or stays above, the flow is the rise where the gap ends below it and else 0
pub knee_carried : (tail head tail' head' knee rise flow : ℕ) → tail + head' < head + tail' →
    IsSlackAtKnee tail head knee rise flow → IsSlackAtKnee tail' head' knee rise flow →
    flow ≡ (if nat_lt head' (tail' + knee) then rise else 0)
knee_carried tail head tail' head' knee rise flow shrinks p q =
    elim (cases_lt head' (tail' + knee)) [
      | inl h ↦ omega (arith, cond-true (nat_lt head' (tail' + knee)) rise 0 (lt-ltb head' (tail' + knee) h), q.below h)
      | inr h ↦ omega (arith, cond-false (nat_lt head' (tail' + knee)) rise 0 (le-ltb head' (tail' + knee) h), p.above (omega arith))
    ]

-- what an activity carries at a cut where its gap shrinks from one end to the other: the rises of its knees above
-- the lesser gap
pub carried : (terms : List Term) (knees : Knees) (a tail head tail' head' : ℕ) (flow : ℕ → ℕ) (g : ℕ) → tail + head' < head + tail' →
    IsTight terms knees a tail head flow g → IsTight terms knees a tail' head' flow g →
    sum_to (knees.count a) flow + g ≡ sum_to (knees.count a) (λ k. if nat_lt head' (tail' + knees.knee a k) then knees.rise a k else 0)
carried terms knees a tail head tail' head' flow g shrinks p q =
    let room = q.room in
    omega (
      arith,
      sum_to-same (knees.count a) flow (λ k. if nat_lt head' (tail' + knees.knee a k) then knees.rise a k else 0)
          (λ k inside. knee_carried tail head tail' head' (knees.knee a k) (knees.rise a k) (flow k) shrinks (p.slack.at_knees k inside) (q.slack.at_knees k inside)),
      p.slack.above_crash (omega arith),
    )

-- Below, b and t say whether an activity's beginning and its ending event move, u and v are their times, and s is how
-- far they fall

forward_part : (b t : Bool) (terms : List Term) (knees : Knees) (a u v : ℕ) (flow : ℕ → ℕ) (g s : ℕ) → 0 < s →
    IsTight terms knees a (side t u 0) (side b v 0) flow g → IsTight terms knees a (side t u s) (side b v s) flow g →
    (if not b && t then sum_to (knees.count a) flow + g else 0)
    ≡ (if not b && t then sum_to (knees.count a) (λ k. if nat_lt (side b v s) (side t u s + knees.knee a k) then knees.rise a k else 0) else 0)
forward_part true t terms knees a u v flow g s h p q = refl
forward_part false false terms knees a u v flow g s h p q = refl
forward_part false true terms knees a u v flow g s h p q = carried terms knees a (u + 0) (v + 0) (u + s) (v + 0) flow g (omega arith) p q

backward_part : (b t : Bool) (terms : List Term) (knees : Knees) (a u v : ℕ) (flow : ℕ → ℕ) (g s : ℕ) → 0 < s →
    IsTight terms knees a (side t u 0) (side b v 0) flow g → IsTight terms knees a (side t u s) (side b v s) flow g →
    (if b && not t then sum_to (knees.count a) flow + g else 0)
    ≡ (if b && not t then sum_to (knees.count a) (λ k. if nat_lt (side b v 0) (side t u 0 + knees.knee a k) then knees.rise a k else 0) else 0)
backward_part true true terms knees a u v flow g s h p q = refl
backward_part false t terms knees a u v flow g s h p q = refl
backward_part true false terms knees a u v flow g s h p q = carried terms knees a (u + 0) (v + s) (u + 0) (v + 0) flow g (omega arith) q p

module _ (net : Network) (terms : List Term) (knees : Knees) (priced : IsPriced net terms knees)
    (seg : Segment) (right : IsRightSegment net terms knees seg) where
  -- the segment's flows, and the activities at its two ends
  pub flows_of : IsFlow net knees seg.flow seg.beside seg.slope
  flows_of = record { capacity = right.capacity; conserved = right.conserved; leaves = right.leaves }

  tight_end : (a : ℕ) → a < length net.arcs → IsTight terms knees a (tail_at net.arcs seg 0 a) (head_at net.arcs seg 0 a) (seg.flow a) (seg.beside a)
  tight_end a inside = record { room = right.room_at_upper a inside; slack = right.slack_at_upper a inside }

  tight_low : (a : ℕ) → a < length net.arcs → IsTight terms knees a (tail_at net.arcs seg (span seg) a) (head_at net.arcs seg (span seg) a) (seg.flow a) (seg.beside a)
  tight_low a inside = record { room = right.room_at_lower a inside; slack = right.slack_at_lower a inside }

  moving_cut : seg.lower < seg.upper → forward_rises net knees seg ≡ backward_rises net knees seg + seg.slope
  moving_cut h =
      omega (
        arith,
        crossing net (whole_flow knees seg.flow seg.beside) seg.slope priced.range priced.sound right.conserved right.leaves
            seg.moves right.ends.start_rests (right.ends.end_moves h),
        sum_to-same (length net.arcs) (λ a. if is_forward net.arcs seg.moves a then whole_flow knees seg.flow seg.beside a else 0)
            (λ a. if is_forward net.arcs seg.moves a then rises_above net knees seg (span seg) a else 0)
            (λ a inside. forward_part (seg.moves (from_of net.arcs a)) (seg.moves (to_of net.arcs a)) terms knees a
            (seg.time (from_of net.arcs a)) (seg.time (to_of net.arcs a)) (seg.flow a) (seg.beside a) (span seg) (omega arith)
            (tight_end a inside) (tight_low a inside)),
        sum_to-same (length net.arcs) (λ a. if is_backward net.arcs seg.moves a then whole_flow knees seg.flow seg.beside a else 0)
            (λ a. if is_backward net.arcs seg.moves a then rises_above net knees seg 0 a else 0)
            (λ a inside. backward_part (seg.moves (from_of net.arcs a)) (seg.moves (to_of net.arcs a)) terms knees a
            (seg.time (from_of net.arcs a)) (seg.time (to_of net.arcs a)) (seg.flow a) (seg.beside a) (span seg) (omega arith)
            (tight_end a inside) (tight_low a inside)),
      )

  -- no activity crosses where no event moves
  still_cut : IsStill net knees seg → forward_rises net knees seg ≡ backward_rises net knees seg + seg.slope
  still_cut still =
      omega (
        arith,
        still.flat,
        sum_to-zero (length net.arcs) (λ a. if is_forward net.arcs seg.moves a then rises_above net knees seg (span seg) a else 0)
            (λ a inside. cond-false (is_forward net.arcs seg.moves a) (rises_above net knees seg (span seg) a) 0
            (and_right (not (seg.moves (from_of net.arcs a))) (seg.moves (to_of net.arcs a)) (still.rests (to_of net.arcs a) (priced.range.to_in a inside)))),
        sum_to-zero (length net.arcs) (λ a. if is_backward net.arcs seg.moves a then rises_above net knees seg 0 a else 0)
            (λ a inside. cond-false (is_backward net.arcs seg.moves a) (rises_above net knees seg 0 a) 0
            (and_left (seg.moves (from_of net.arcs a)) (not (seg.moves (to_of net.arcs a))) (still.rests (from_of net.arcs a) (priced.range.from_in a inside)))),
      )

  -- the rises across the cut, forward and backward, differ by the segment's slope
  pub cut_rises : forward_rises net knees seg ≡ backward_rises net knees seg + seg.slope
  cut_rises =
      let ordered = right.proper.ordered in
      elim (cases_lt seg.lower seg.upper) [
        | inl h ↦ moving_cut h
        | inr h ↦ still_cut (right.proper.degenerate (omega arith))
      ]

  -- The readings

  -- activities are tight at each fall within the span
  pub tight_at : (x : ℕ) → x ≤ span seg → (a : ℕ) → a < length net.arcs →
      IsTight terms knees a (tail_at net.arcs seg x a) (head_at net.arcs seg x a) (seg.flow a) (seg.beside a)
  tight_at x h a inside =
      tight_between (seg.moves (from_of net.arcs a)) (seg.moves (to_of net.arcs a)) terms knees a
      (seg.time (from_of net.arcs a)) (seg.time (to_of net.arcs a)) (seg.flow a) (seg.beside a) (span seg) x h
      (tight_end a inside) (tight_low a inside)

  -- the start does not fall
  start_stays : (x : ℕ) → fall_of seg.moves x net.start ≡ 0
  start_stays x = cond-false (seg.moves net.start) x 0 right.ends.start_rests

  -- no event falls below 0
  pub falls_within : (x : ℕ) → x ≤ span seg → (e : ℕ) → e < net.events → fall_of seg.moves x e ≤ seg.time e
  falls_within x h e inside =
      let way = priced.sound.reached e inside in
      falls_along net.arcs seg.time seg.moves x
      (λ a here. let room = (tight_at x h a here).room in omega (arith, room))
      way.0 net.start e way.1 (omega (arith, start_stays x))

  -- the end falls by as much as the length is shorter
  end_at : (limit : ℕ) → seg.lower ≤ limit → limit ≤ seg.upper → times_for seg limit net.end ≡ limit
  end_at limit above below =
      let end_time = right.ends.end_time in
      elim (cases_lt seg.lower seg.upper) [
        | inl h ↦ omega (arith, cond-true (seg.moves net.end) (seg.upper - limit) 0 (right.ends.end_moves h))
        | inr h ↦
            let none : seg.upper - limit ≡ 0 = omega arith in
            omega (arith, ap (λ x. fall_of seg.moves x net.end) none, fall_of-zero (seg.moves net.end))
      ]

  -- the times read for a length are those of activities that are tight
  pub tight_read : (limit : ℕ) → seg.lower ≤ limit → limit ≤ seg.upper → AreTight net terms knees seg.flow seg.beside (times_for seg limit)
  tight_read limit above below =
      let x : ℕ = seg.upper - limit in
      let start_time = right.ends.start_time in
      record {
        starts = omega arith;
        tight = λ a inside.
            tight_shifted terms knees a (tail_at net.arcs seg x a) (head_at net.arcs seg x a) (times_for seg limit (from_of net.arcs a))
            (times_for seg limit (to_of net.arcs a)) (seg.flow a) (seg.beside a)
            (omega (
              arith,
              falls_within x (omega arith) (from_of net.arcs a) (priced.range.from_in a inside),
              falls_within x (omega arith) (to_of net.arcs a) (priced.range.to_in a inside),
            ))
            (tight_at x (omega arith) a inside);
      }

  -- the times at the upper end are those of activities that are tight
  pub tight_upper : AreTight net terms knees seg.flow seg.beside seg.time
  tight_upper = record {
    starts = right.ends.start_time;
    tight = λ a inside.
        tight_shifted terms knees a (tail_at net.arcs seg 0 a) (head_at net.arcs seg 0 a) (seg.time (from_of net.arcs a)) (seg.time (to_of net.arcs a)) (seg.flow a) (seg.beside a)
        (omega (arith, fall_of-zero (seg.moves (from_of net.arcs a)), fall_of-zero (seg.moves (to_of net.arcs a))))
        (tight_end a inside);
  }

  -- what the flow promises, from the cost at the upper end
  promise_upper : promise terms knees seg.flow seg.beside ≡ seg.cost + seg.upper * seg.slope
  promise_upper =
      let costs = right.costs in
      omega (
        arith,
        tight_promise net terms knees priced seg.flow seg.beside seg.slope flows_of seg.time tight_upper,
        ap (λ t. t * seg.slope) right.ends.end_time,
        sum_to-same (length terms) (λ a. activity_cost terms knees a (lesser_of net terms seg.time a)) (λ a. activity_cost terms knees a (seg.duration a))
            (λ a inside. ap (λ d. activity_cost terms knees a d) (sym (right.durations a (omega (arith, priced.terms_fit.one_each))))),
      )

  -- and from the cost that is read for a length
  promise_read : (limit : ℕ) → limit ≤ seg.upper → promise terms knees seg.flow seg.beside ≡ cost_for seg limit + limit * seg.slope
  promise_read limit below =
      let split : seg.upper ≡ (seg.upper - limit) + limit = omega arith in
      omega (arith, promise_upper, mul_comm seg.slope seg.upper, mul-add seg.slope (seg.upper - limit) limit, mul_comm seg.slope limit, ap (λ x. seg.slope * x) split)

  -- the reading for a length between the ends is right
  pub right_at : (limit : ℕ) → seg.lower ≤ limit → limit ≤ seg.upper → IsRight net terms knees seg limit
  right_at limit above below =
      let read = tight_read limit above below in
      let ends = end_at limit above below in
      let scheduled : IsSchedule net terms limit (durations_for net terms seg limit) (times_for seg limit) =
      subst (λ (n : ℕ). IsSchedule net terms n (durations_for net terms seg limit) (times_for seg limit)) ends
      (tight_schedule net terms knees priced seg.flow seg.beside seg.slope flows_of (times_for seg limit) read) in
      let promised = promise_read limit below in
      let costs : cost_of terms knees (durations_for net terms seg limit) ≡ cost_for seg limit =
      omega (arith, promised, tight_promise net terms knees priced seg.flow seg.beside seg.slope flows_of (times_for seg limit) read, ap (λ t. t * seg.slope) ends) in
      record {
        exact = λ e inside. falls_within (seg.upper - limit) (omega arith) e inside;
        schedule = scheduled;
        ends = ends;
        costs = costs;
        flow = flows_of;
        promised = promised;
        bound = omega (arith, ints, promised);
        least = record {
          reached = (durations_for net terms seg limit, times_for seg limit, scheduled, costs);
          least = λ d T s. omega (arith, promised, weak_duality net terms knees priced seg.flow seg.beside seg.slope flows_of limit d T s);
        };
        cut = omega (arith, ints, cut_rises);
      }
