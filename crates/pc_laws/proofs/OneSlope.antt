-- The words of knees at one knee, in both directions.
use Rattle.std.proofs.Common.{◌≡◌, ◌≤◌, ◌<◌, ◌+◌, ◌-◌, ◌*◌, ◌==◌, if◌then◌else◌, ◌⊎◌, inl, inr, ℕ, zero, suc, Bool, true, false, ◌&&◌, List, [], length, refl, ap, sym, subst, ◌∙◌, arith}
use Rattle.std.specs.Prelude.{nat_lt, ◌↔◌, pos, ◌-ℤ◌}
use Rattle.pc_model.specs.declared.Term.{Term}
use Rattle.pc_model.specs.Sums.{sum_to, at_event}
use Rattle.pc_model.specs.Walk.{from_of, to_of}
use Rattle.pc_model.specs.Network.{Network}
use Rattle.pc_model.specs.Schedule.{normal_of, crash_of, base_cost_of, slope_of, AreTerms}
use Rattle.pc_model.specs.Cost.{Knees, one_knee, activity_cost, cost_of, IsLeastCost}
use Rattle.pc_model.specs.Pieces.{knees_of}
use Rattle.pc_laws.specs.Flow.{whole_flow, IsFlow, promise_of, promise}
use Rattle.pc_laws.specs.Tight.{IsSlackAtKnee, IsSlack}
use Rattle.pc_laws.specs.Segment.{Segment, span, head_at, tail_at, is_forward, is_backward, rises_above, backward_rises, cut_gain, StopsAtCrash, StopsAtLower, IsSegment}
use Rattle.pc_laws.specs.Cover.{IsCovering}
use Rattle.pc_laws.specs.OneSlope.{HasOneSlope, plain_cost_of, IsPlainLeastCost, IsPlainFlow, plain_promise, IsPlainSlack, is_shortened}
use Rattle.pc_laws.specs.OneSlope.{forward_slopes, backward_slopes, FallsToNormal, RisesToNormal, IsPlainStill, IsPlainSegment, IsPlainCovering}
use Rattle.pc_model.proofs.Sums.{sum_to-add, sum_to-same}

-- a sum over one knee is its one term
at_one : (n : ℕ) (f : ℕ → ℕ) → n ≡ 1 → sum_to n f ≡ f 0
at_one n f one = omega (arith, ap (λ m. sum_to m f) one)

pub no_pieces : (net : Network) (terms : List Term) → HasOneSlope net terms (knees_of terms [])
no_pieces net terms = record { count = λ a l. omega arith; knee = λ a l. refl; rise = λ a l. refl }

pub one_knee_slope : (net : Network) (terms : List Term) → HasOneSlope net terms (one_knee terms)
one_knee_slope net terms = record { count = λ a l. refl; knee = λ a l. refl; rise = λ a l. refl }

module _ (net : Network) (terms : List Term) (knees : Knees) (one : HasOneSlope net terms knees) where
  -- Flows

  -- the total flow is f1 + f2
  both : (flow : ℕ → ℕ → ℕ) (beside : ℕ → ℕ) (a : ℕ) → a < length net.arcs → whole_flow knees flow beside a ≡ flow a 0 + beside a
  both flow beside a l = omega (arith, at_one (knees.count a) (flow a) (one.count a l))

  at_both : (place : ℕ → ℕ) (flow : ℕ → ℕ → ℕ) (beside : ℕ → ℕ) (e : ℕ) →
      at_event (length net.arcs) place (whole_flow knees flow beside) e ≡ at_event (length net.arcs) place (λ a. flow a 0 + beside a) e
  at_both place flow beside e =
      sum_to-same (length net.arcs) (λ a. if place a == e then whole_flow knees flow beside a else 0) (λ a. if place a == e then flow a 0 + beside a else 0)
      (λ a l. ap (λ (x : ℕ). if place a == e then x else 0) (both flow beside a l))

  -- the capacity at the one knee
  capacity_from : (flow : ℕ → ℕ → ℕ) → ((a : ℕ) → a < length net.arcs → flow a 0 ≤ slope_of terms a) →
      (a k : ℕ) → a < length net.arcs → k < knees.count a → flow a k ≤ knees.rise a k
  capacity_from flow most a zero l below = omega (arith, most a l, one.rise a l)
  capacity_from flow most a (suc k) l below = absurd (omega (arith, one.count a l))

  pub flows : (flow : ℕ → ℕ → ℕ) (beside : ℕ → ℕ) (value : ℕ) → IsFlow net knees flow beside value ↔ IsPlainFlow net terms (λ a. flow a 0) beside value
  flows flow beside value = (
    λ is. record {
      capacity = λ a l. omega (arith, is.capacity a 0 l (omega (arith, one.count a l)), one.rise a l);
      conserved = λ e l s t. omega (arith, at_both (to_of net.arcs) flow beside e, is.conserved e l s t, at_both (from_of net.arcs) flow beside e);
      leaves = omega (arith, at_both (from_of net.arcs) flow beside net.start, is.leaves);
    },
    λ is. record {
      capacity = capacity_from flow is.capacity;
      conserved = λ e l s t. omega (arith, at_both (to_of net.arcs) flow beside e, is.conserved e l s t, at_both (from_of net.arcs) flow beside e);
      leaves = omega (arith, at_both (from_of net.arcs) flow beside net.start, is.leaves);
    },
  )

  -- Slackness, the cut, stops

  slack_to : (a tail head : ℕ) (flow : ℕ → ℕ) (beside : ℕ) → a < length net.arcs → IsSlack terms knees a tail head flow beside → IsPlainSlack terms a tail head (flow 0) beside
  slack_to a tail head flow beside l slack =
      let at = slack.at_knees 0 (omega (arith, one.count a l)) in
      record {
        above_normal = λ far. at.above (omega (arith, one.knee a l));
        below_normal = λ near. at.below (omega (arith, one.knee a l)) ∙ one.rise a l;
        above_crash = slack.above_crash;
      }

  slack_from : (a tail head : ℕ) (flow : ℕ → ℕ) (beside : ℕ) → a < length net.arcs → IsPlainSlack terms a tail head (flow 0) beside → IsSlack terms knees a tail head flow beside
  slack_from a tail head flow beside l slack = record { at_knees = at_knees; above_crash = slack.above_crash }
    where
      at_knees : (k : ℕ) → k < knees.count a → IsSlackAtKnee tail head (knees.knee a k) (knees.rise a k) (flow k)
      at_knees zero below = record {
        above = λ far. slack.above_normal (omega (arith, one.knee a l));
        below = λ near. slack.below_normal (omega (arith, one.knee a l)) ∙ sym (one.rise a l);
      }
      at_knees (suc k) below = absurd (omega (arith, one.count a l))

  -- a choice by two tests is a choice of a choice
  chosen : (b c : Bool) (x : ℕ) → (if b then (if c then x else 0) else 0) ≡ (if b && c then x else 0)
  chosen true c x = refl
  chosen false c x = refl

  rises_at : (seg : Segment) (fall a : ℕ) → a < length net.arcs → rises_above net knees seg fall a ≡ (if is_shortened net terms seg fall a then slope_of terms a else 0)
  rises_at seg fall a l =
      at_one (knees.count a) (λ k. if nat_lt (head_at net.arcs seg fall a) (tail_at net.arcs seg fall a + knees.knee a k) then knees.rise a k else 0) (one.count a l)
      ∙ (ap (λ (n : ℕ). if nat_lt (head_at net.arcs seg fall a) (tail_at net.arcs seg fall a + n) then knees.rise a 0 else 0) (one.knee a l)
      ∙ ap (λ (n : ℕ). if is_shortened net terms seg fall a then n else 0) (one.rise a l))

  -- so are the rises of the activities that pass a test
  rises_are : (test : ℕ → Bool) (seg : Segment) (fall : ℕ) →
      sum_to (length net.arcs) (λ a. if test a then rises_above net knees seg fall a else 0)
      ≡ sum_to (length net.arcs) (λ a. if test a && is_shortened net terms seg fall a then slope_of terms a else 0)
  rises_are test seg fall =
      sum_to-same (length net.arcs) (λ a. if test a then rises_above net knees seg fall a else 0)
      (λ a. if test a && is_shortened net terms seg fall a then slope_of terms a else 0)
      (λ a l. ap (λ (x : ℕ). if test a then x else 0) (rises_at seg fall a l)
      ∙ chosen (test a) (is_shortened net terms seg fall a) (slope_of terms a))

  gain_is : (seg : Segment) → cut_gain net knees seg ≡ pos (forward_slopes net terms seg) -ℤ pos (backward_slopes net terms seg)
  gain_is seg =
      ap (λ n. pos n -ℤ pos (backward_rises net knees seg)) (rises_are (is_forward net.arcs seg.moves) seg (span seg))
      ∙ ap (λ n. pos (forward_slopes net terms seg) -ℤ pos n) (rises_are (is_backward net.arcs seg.moves) seg 0)

  abbrev PlainStop : Segment → Type 0
  PlainStop seg = (a : ℕ) × (a < length net.arcs) × (StopsAtCrash net terms seg a ⊎ (FallsToNormal net terms seg a ⊎ RisesToNormal net terms seg a))

  stops_to : (seg : Segment) → StopsAtLower net terms knees seg → PlainStop seg
  stops_to seg (a, l, inl crash) = (a, l, inl crash)
  stops_to seg (a, l, inr (zero, below, inl at)) =
      (a, l, inr (inl (record { forward = at.forward; above = omega (arith, at.above, one.knee a l); at_normal = omega (arith, at.at_knee, one.knee a l) })))
  stops_to seg (a, l, inr (zero, below, inr at)) =
      (a, l, inr (inr (record { backward = at.backward; below = omega (arith, at.below, one.knee a l); at_normal = omega (arith, at.at_knee, one.knee a l) })))
  stops_to seg (a, l, inr (suc k, below, at)) = absurd (omega (arith, one.count a l))

  stops_from : (seg : Segment) → PlainStop seg → StopsAtLower net terms knees seg
  stops_from seg (a, l, inl crash) = (a, l, inl crash)
  stops_from seg (a, l, inr (inl at)) =
      (a, l, inr (0, omega (arith, one.count a l), inl (record { forward = at.forward; above = omega (arith, at.above, one.knee a l); at_knee = omega (arith, at.at_normal, one.knee a l) })))
  stops_from seg (a, l, inr (inr at)) =
      (a, l, inr (0, omega (arith, one.count a l), inr (record { backward = at.backward; below = omega (arith, at.below, one.knee a l); at_knee = omega (arith, at.at_normal, one.knee a l) })))

  module _ (sized : AreTerms net terms) where
    in_arcs : (a : ℕ) → a < length terms → a < length net.arcs
    in_arcs a l = subst (λ n. a < n) sized.one_each l

    -- Costs

    pub costs_is : (d : ℕ → ℕ) → cost_of terms knees d ≡ plain_cost_of terms d
    costs_is d =
        sum_to-same (length terms) (λ a. activity_cost terms knees a (d a)) (λ a. base_cost_of terms a + slope_of terms a * (normal_of terms a - d a))
        (λ a l. omega (
          arith,
          at_one (knees.count a) (λ k. knees.rise a k * (knees.knee a k - d a)) (one.count a (in_arcs a l)),
          ap (λ n. n * (knees.knee a 0 - d a)) (one.rise a (in_arcs a l)),
          ap (λ n. slope_of terms a * (n - d a)) (one.knee a (in_arcs a l)),
        ))

    pub least_is : (limit cost : ℕ) → IsLeastCost net terms knees limit cost ↔ IsPlainLeastCost net terms limit cost
    least_is limit cost = (
      λ p. record {
        reached = (let (d, t, s, is) = p.reached in (d, t, s, sym (costs_is d) ∙ is));
        least = λ d t s. omega (arith, costs_is d, p.least d t s);
      },
      λ p. record {
        reached = (let (d, t, s, is) = p.reached in (d, t, s, costs_is d ∙ is));
        least = λ d t s. omega (arith, costs_is d, p.least d t s);
      },
    )

    pub promise_is : (flow : ℕ → ℕ → ℕ) (beside : ℕ → ℕ) → promise terms knees flow beside ≡ plain_promise terms (λ a. flow a 0) beside
    promise_is flow beside =
        sum_to-same (length terms) (promise_of terms knees flow beside) (λ a. base_cost_of terms a + (normal_of terms a * flow a 0 + crash_of terms a * beside a))
        (λ a l. omega (
          arith,
          at_one (knees.count a) (λ k. knees.knee a k * flow a k) (one.count a (in_arcs a l)),
          ap (λ n. n * flow a 0) (one.knee a (in_arcs a l)),
        ))
        ∙ sum_to-add (length terms) (base_cost_of terms) (λ a. normal_of terms a * flow a 0 + crash_of terms a * beside a)

    -- Segments

    segment_to : (seg : Segment) → IsSegment net terms knees seg → IsPlainSegment net terms seg
    segment_to seg whole = record {
      ends = whole.right.ends;
      room_at_upper = whole.right.room_at_upper;
      room_at_lower = whole.right.room_at_lower;
      durations = whole.right.durations;
      flow = (flows seg.flow seg.beside seg.slope).0 (record { capacity = whole.right.capacity; conserved = whole.right.conserved; leaves = whole.right.leaves });
      slack_at_upper = λ a l. slack_to a _ _ (seg.flow a) (seg.beside a) l (whole.right.slack_at_upper a l);
      slack_at_lower = λ a l. slack_to a _ _ (seg.flow a) (seg.beside a) l (whole.right.slack_at_lower a l);
      costs = sym (costs_is seg.duration) ∙ whole.right.costs;
      cut = λ long. sym (gain_is seg) ∙ whole.cut long;
      stops = λ long. stops_to seg (whole.stops long);
      ordered = whole.right.proper.ordered;
      degenerate = λ same.
          let still = whole.right.proper.degenerate same in
          record { flat = still.flat; rests = still.rests; f1_empty = λ a l. still.empty a 0 l (omega (arith, one.count a l)); f2_empty = still.empty_beside };
    }

    segment_from : (seg : Segment) → IsPlainSegment net terms seg → IsSegment net terms knees seg
    segment_from seg plain = record {
      right = record {
        ends = plain.ends;
        room_at_upper = plain.room_at_upper;
        room_at_lower = plain.room_at_lower;
        durations = plain.durations;
        capacity = ((flows seg.flow seg.beside seg.slope).1 plain.flow).capacity;
        conserved = ((flows seg.flow seg.beside seg.slope).1 plain.flow).conserved;
        leaves = ((flows seg.flow seg.beside seg.slope).1 plain.flow).leaves;
        slack_at_upper = λ a l. slack_from a _ _ (seg.flow a) (seg.beside a) l (plain.slack_at_upper a l);
        slack_at_lower = λ a l. slack_from a _ _ (seg.flow a) (seg.beside a) l (plain.slack_at_lower a l);
        costs = costs_is seg.duration ∙ plain.costs;
        proper = record {
          ordered = plain.ordered;
          degenerate = λ same.
              let still = plain.degenerate same in
              record { flat = still.flat; rests = still.rests; empty = empty still; empty_beside = still.f2_empty };
        };
      };
      cut = λ long. gain_is seg ∙ plain.cut long;
      stops = λ long. stops_from seg (plain.stops long);
    }
      where
        empty : IsPlainStill net seg → (a k : ℕ) → a < length net.arcs → k < knees.count a → seg.flow a k ≡ 0
        empty still a zero l below = still.f1_empty a l
        empty still a (suc k) l below = absurd (omega (arith, one.count a l))

    pub segment_is : (seg : Segment) → IsSegment net terms knees seg ↔ IsPlainSegment net terms seg
    segment_is seg = (segment_to seg, segment_from seg)

    pub covering_is : (segments : List Segment) (high low : ℕ) → IsCovering net terms knees segments high low ↔ IsPlainCovering net terms segments high low
    covering_is segments high low = (
      λ is. record {
        each = λ k d inside. segment_to _ (is.front.each k d inside);
        joined = is.front.joined;
        long = is.front.long;
        normal = is.front.normal;
        normal_walk = is.front.normal_walk;
        crash_walk = is.crash_walk;
      },
      λ is. record {
        front = record {
          each = λ k d inside. segment_from _ (is.each k d inside);
          joined = is.joined;
          long = is.long;
          normal = is.normal;
          normal_walk = is.normal_walk;
        };
        crash_walk = is.crash_walk;
      },
    )
