-- Where the labels do not reach the end: the moving events fall until an activity stops, and the stretch of lengths
-- that they fall through is a segment.
use Rattle.std.proofs.Common.{◌≡◌, ◌≤◌, ◌<◌, ◌+◌, ◌-◌, ◌*◌, inl, inr, ⊎_elim, ℕ, List, length, Bool, true, false, not, ◌&&◌, arith, refl, sym, subst}
use Rattle.std.specs.Prelude.{if◌then◌else◌}
use Rattle.std.proofs.Math.Nat.{eq-zero-or-pos}
use Rattle.std.proofs.lemmas.Int.{ints}
use Rattle.std.proofs.lemmas.Bool.{cases_order, cases_lt, cases_eq, cond-true, cond-false, false≢true}
use Rattle.pc_model.specs.declared.Term.{Term}
use Rattle.pc_model.specs.Walk.{from_of, to_of}
use Rattle.pc_model.specs.Network.{Network}
use Rattle.pc_model.specs.Schedule.{crash_of, IsAllCrashLength, lesser_of}
use Rattle.pc_model.specs.Cost.{Knees, cost_of, IsPriced}
use Rattle.pc_laws.specs.Tight.{IsSlackAtKnee, IsTight}
use Rattle.pc_laws.specs.Segment.{Segment, span, fall_of, head_at, tail_at, IsRightSegment, is_forward, is_backward, StopsAtLower, IsSegment}
use Rattle.pc_laws.specs.State.{State, IsOptimal, IsAtCrash, fallen, IsFall, segment_of}
use Rattle.pc_laws.proofs.Segments.Falls.{fall_of-zero, tight_shifted, falls_along}
use Rattle.pc_laws.proofs.Segments.Readings.{right_at, cut_rises}
use Rattle.pc_laws.proofs.States.Opening.{within_range}

-- what holds of a forward activity from s to t at one knee before a fall
record Shortens (s t knee rise flow fall : ℕ) : Type 0 where
  full : s + knee ≡ t → rise ≤ flow
  to_knee : 0 < rise → s + knee < t → s + knee + fall ≤ t

-- and of a backward one
record Lengthens (s t knee rise flow fall : ℕ) : Type 0 where
  empty : s + knee ≡ t → flow ≡ 0
  up_to_knee : 0 < rise → t < s + knee → t + fall ≤ s + knee

-- the flow at a knee of a forward activity still fits after the fall
knee_shortened : (s t knee rise flow fall : ℕ) → IsSlackAtKnee s t knee rise flow → flow ≤ rise → Shortens s t knee rise flow fall
    → IsSlackAtKnee (s + fall) (t + 0) knee rise flow
knee_shortened s t knee rise flow fall slack most known = record {
  above = λ far. slack.above (omega arith);
  below = λ near. ⊎_elim
      (λ at. omega (arith, known.full (sym at)))
      (⊎_elim slack.below
      (λ above. ⊎_elim (λ none. omega (arith, none)) (λ some. absurd (omega (arith, known.to_knee some above))) (eq-zero-or-pos rise)))
      (cases_order t (s + knee));
}

-- and of a backward one
knee_lengthened : (s t knee rise flow fall : ℕ) → IsSlackAtKnee s t knee rise flow → flow ≤ rise → Lengthens s t knee rise flow fall
    → IsSlackAtKnee (s + 0) (t + fall) knee rise flow
knee_lengthened s t knee rise flow fall slack most known = record {
  above = λ far. ⊎_elim
      (λ at. known.empty (sym at))
      (⊎_elim (λ below. ⊎_elim (λ none. omega (arith, none)) (λ some. absurd (omega (arith, known.up_to_knee some below))) (eq-zero-or-pos rise))
      slack.above)
      (cases_order t (s + knee));
  below = λ near. slack.below (omega arith);
}

-- a fall keeps an activity tight; b: its beginning event moves, c: its ending event moves
tight_after : (b c : Bool) (terms : List Term) (knees : Knees) (a s t : ℕ) (f : ℕ → ℕ) (g fall : ℕ) → IsTight terms knees a s t f g
    → ((k : ℕ) → k < knees.count a → f k ≤ knees.rise a k)
    → ((not b && c) ≡ true → (s + crash_of terms a + fall ≤ t) × ((k : ℕ) → k < knees.count a → Shortens s t (knees.knee a k) (knees.rise a k) (f k) fall))
    → ((b && not c) ≡ true → (s + crash_of terms a ≡ t → g ≡ 0) × ((k : ℕ) → k < knees.count a → Lengthens s t (knees.knee a k) (knees.rise a k) (f k) fall))
    → IsTight terms knees a (s + (if c then fall else 0)) (t + (if b then fall else 0)) f g
tight_after true true terms knees a s t f g fall tight most fw bw = tight_shifted terms knees a s t _ _ f g (omega arith) tight
tight_after false false terms knees a s t f g fall tight most fw bw = tight_shifted terms knees a s t _ _ f g (omega arith) tight
tight_after false true terms knees a s t f g fall tight most fw bw =
    let (to_crash, known) = fw refl in
    record {
      room = omega arith;
      slack = record {
        at_knees = λ k l. knee_shortened s t (knees.knee a k) (knees.rise a k) (f k) fall (tight.slack.at_knees k l) (most k l) (known k l);
        above_crash = λ far. tight.slack.above_crash (omega arith);
      };
    }
tight_after true false terms knees a s t f g fall tight most fw bw =
    let (empty, known) = bw refl in
    let room = tight.room in
    record {
      room = omega arith;
      slack = record {
        at_knees = λ k l. knee_lengthened s t (knees.knee a k) (knees.rise a k) (f k) fall (tight.slack.at_knees k l) (most k l) (known k l);
        above_crash = λ far. ⊎_elim (λ at. empty at) (λ ne. tight.slack.above_crash (omega arith)) (cases_eq (s + crash_of terms a) t);
      };
    }

-- a forward activity that spans a duration and a fall spans the duration after the fall
forward_at : (b c : Bool) (s t d n : ℕ) → (not b && c) ≡ true → s + d + n ≡ t → t + (if b then n else 0) ≡ s + (if c then n else 0) + d
forward_at true c s t d n forward at = absurd (false≢true forward)
forward_at false true s t d n forward at = omega arith
forward_at false false s t d n forward at = absurd (false≢true forward)

-- and a backward one that spans a duration less a fall
backward_at : (b c : Bool) (s t d n : ℕ) → (b && not c) ≡ true → s + d ≡ t + n → t + (if b then n else 0) ≡ s + (if c then n else 0) + d
backward_at false c s t d n backward at = absurd (false≢true backward)
backward_at true false s t d n backward at = omega arith
backward_at true true s t d n backward at = absurd (false≢true backward)

module _ (net : Network) (terms : List Term) (knees : Knees) (st : State) (moves : ℕ → Bool) (fall : ℕ)
    (optimal : IsOptimal net terms knees st) (falls : IsFall net terms knees st moves fall) where
  -- the stretch that the end falls through
  abbrev stretch : Segment
  stretch = segment_of net terms knees st moves fall

  -- a forward activity has a gap above crash
  opened : (a : ℕ) → a < length net.arcs → is_forward net.arcs moves a ≡ true → st.time (from_of net.arcs a) + crash_of terms a < st.time (to_of net.arcs a)
  opened a l forward =
      let room = (optimal.tight.tight a l).room in
      ⊎_elim (λ at. absurd (falls.stuck.forward a l forward (inr at))) (λ ne. omega arith)
      (cases_eq (st.time (from_of net.arcs a) + crash_of terms a) (st.time (to_of net.arcs a)))

  to_crash : (a : ℕ) → a < length net.arcs → is_forward net.arcs moves a ≡ true → st.time (from_of net.arcs a) + crash_of terms a + fall ≤ st.time (to_of net.arcs a)
  to_crash a l forward =
      let room = (optimal.tight.tight a l).room in
      omega (
        arith,
        falls.least a (st.time (to_of net.arcs a) - (st.time (from_of net.arcs a) + crash_of terms a)) l
            (inl (record { forward = forward; at_crash = omega arith })),
      )

  shortens : (a : ℕ) → a < length net.arcs → is_forward net.arcs moves a ≡ true → (k : ℕ) → k < knees.count a
      → Shortens (st.time (from_of net.arcs a)) (st.time (to_of net.arcs a)) (knees.knee a k) (knees.rise a k) (st.flow a k) fall
  shortens a l forward k below = record {
    full = λ at. ⊎_elim (λ some. absurd (falls.stuck.forward a l forward (inl (k, below, at, some)))) (λ none. none) (cases_lt (st.flow a k) (knees.rise a k));
    to_knee = λ dear above.
        omega (
          arith,
          falls.least a (st.time (to_of net.arcs a) - (st.time (from_of net.arcs a) + knees.knee a k)) l
              (inr (k, below, inl (record { forward = forward; dear = dear; above = omega arith; at_knee = omega arith }))),
        );
  }

  lengthens : (a : ℕ) → a < length net.arcs → is_backward net.arcs moves a ≡ true → (k : ℕ) → k < knees.count a
      → Lengthens (st.time (from_of net.arcs a)) (st.time (to_of net.arcs a)) (knees.knee a k) (knees.rise a k) (st.flow a k) fall
  lengthens a l backward k below = record {
    empty = λ at. ⊎_elim (λ some. absurd (falls.stuck.backward a l backward (inl (k, below, at, some)))) (λ none. omega arith) (cases_lt 0 (st.flow a k));
    up_to_knee = λ dear under.
        omega (
          arith,
          falls.least a (st.time (from_of net.arcs a) + knees.knee a k - st.time (to_of net.arcs a)) l
              (inr (k, below, inr (record { backward = backward; dear = dear; below = omega arith; at_knee = omega arith }))),
        );
  }

  emptied : (a : ℕ) → a < length net.arcs → is_backward net.arcs moves a ≡ true → IsAtCrash net terms st.time a → st.beside a ≡ 0
  emptied a l backward at =
      ⊎_elim (λ some. absurd (falls.stuck.backward a l backward (inr (at, some)))) (λ none. omega arith) (cases_lt 0 (st.beside a))

  -- the fall is at least 1
  pub fall_positive : 0 < fall
  fall_positive =
      let (a, l, stops) = falls.stops in
      ⊎_elim (λ crash. let far = opened a l crash.forward in let at = crash.at_crash in omega arith)
      (λ (k, below, which). ⊎_elim (λ at. at.above) (λ at. at.below) which) stops

  -- each activity is tight when the moving events have fallen
  tight_fallen : (a : ℕ) → a < length net.arcs →
      IsTight terms knees a (tail_at net.arcs stretch fall a) (head_at net.arcs stretch fall a) (st.flow a) (st.beside a)
  tight_fallen a l =
      tight_after (moves (from_of net.arcs a)) (moves (to_of net.arcs a)) terms knees a _ _ (st.flow a) (st.beside a) fall
      (optimal.tight.tight a l) (λ k below. optimal.flow.capacity a k l below)
      (λ forward. (to_crash a l forward, shortens a l forward)) (λ backward. (emptied a l backward, lengthens a l backward))

  module _ (priced : IsPriced net terms knees) where
    -- no event falls below 0
    falls_above : (e : ℕ) → e < net.events → fall_of moves fall e ≤ st.time e
    falls_above e l =
        let (walk, walked) = priced.sound.reached e l in
        falls_along net.arcs st.time moves fall (λ a here. let room = (tight_fallen a here).room in omega arith) walk net.start e walked
        (omega (arith, cond-false (moves net.start) fall 0 falls.stuck.start_rests))

    -- and is at most the present length
    pub fall_within : fall ≤ st.limit
    fall_within = omega (arith, falls_above net.end priced.range.end_in, cond-true (moves net.end) fall 0 falls.stuck.end_moves, optimal.ends)

    span_is : span stretch ≡ fall
    span_is = omega (arith, fall_within)

    -- at the upper end each activity is tight, and at the lower end too
    tight_before : (a : ℕ) → a < length net.arcs →
        IsTight terms knees a (tail_at net.arcs stretch 0 a) (head_at net.arcs stretch 0 a) (st.flow a) (st.beside a)
    tight_before a l =
        tight_shifted terms knees a _ _ (tail_at net.arcs stretch 0 a) (head_at net.arcs stretch 0 a) (st.flow a) (st.beside a)
        (omega (arith, fall_of-zero (moves (from_of net.arcs a)), fall_of-zero (moves (to_of net.arcs a)))) (optimal.tight.tight a l)

    tight_after_span : (a : ℕ) → a < length net.arcs →
        IsTight terms knees a (tail_at net.arcs stretch (span stretch) a) (head_at net.arcs stretch (span stretch) a) (st.flow a) (st.beside a)
    tight_after_span a l =
        subst (λ n. IsTight terms knees a (tail_at net.arcs stretch n a) (head_at net.arcs stretch n a) (st.flow a) (st.beside a))
        (sym span_is) (tight_fallen a l)

    -- the stretch that the end falls through is a right segment
    right_of_fall : IsRightSegment net terms knees stretch
    right_of_fall = record {
      ends = record {
        start_time = optimal.tight.starts;
        start_rests = falls.stuck.start_rests;
        end_time = optimal.ends;
        end_moves = λ l. falls.stuck.end_moves;
      };
      room_at_upper = λ a l. (tight_before a l).room;
      room_at_lower = λ a l. (tight_after_span a l).room;
      durations = λ a l. refl;
      capacity = optimal.flow.capacity;
      conserved = optimal.flow.conserved;
      leaves = optimal.flow.leaves;
      slack_at_upper = λ a l. (tight_before a l).slack;
      slack_at_lower = λ a l. (tight_after_span a l).slack;
      costs = refl;
      proper = record { ordered = omega arith; degenerate = λ same. absurd (omega (arith, same, fall_within, fall_positive)) };
    }

    -- and it ends where an activity stops
    stops_at_lower : StopsAtLower net terms knees stretch
    stops_at_lower =
        let (a, l, stops) = falls.stops in
        let b : Bool = moves (from_of net.arcs a) in
        let c : Bool = moves (to_of net.arcs a) in (
          a,
          l,
          ⊎_elim (λ at. inl (record { forward = at.forward; at_crash = forward_at b c _ _ _ (span stretch) at.forward (omega (arith, span_is, at.at_crash)) }))
              (λ (k, below, which). inr (
                k,
                below,
                ⊎_elim
                    (λ at. inl (record {
                      forward = at.forward;
                      above = omega (arith, at.at_knee, at.above, fall_of-zero b, fall_of-zero c);
                      at_knee = forward_at b c _ _ _ (span stretch) at.forward (omega (arith, span_is, at.at_knee));
                    }))
                    (λ at. inr (record {
                      backward = at.backward;
                      below = omega (arith, at.at_knee, at.below, fall_of-zero b, fall_of-zero c);
                      at_knee = backward_at b c _ _ _ (span stretch) at.backward (omega (arith, span_is, at.at_knee));
                    })) which,
              ))
              stops,
        )

    -- so it is a complete segment
    pub segment_of_fall : IsSegment net terms knees (segment_of net terms knees st moves fall)
    segment_of_fall = record {
      right = right_of_fall;
      cut = λ l. omega (arith, ints, cut_rises net terms knees priced stretch right_of_fall);
      stops = λ l. stops_at_lower;
    }

    -- the fall costs the value for each unit
    pub cost_fallen : cost_of terms knees (lesser_of net terms (fallen st moves fall).time) ≡ cost_of terms knees (lesser_of net terms st.time) + st.value * fall
    cost_fallen =
        subst (λ n. cost_of terms knees (lesser_of net terms (λ e. st.time e - fall_of moves n e)) ≡ cost_of terms knees (lesser_of net terms st.time) + st.value * n)
        span_is (right_at net terms knees priced stretch right_of_fall (st.limit - fall) (omega arith) (omega arith)).costs

    -- between two labellings the same holds after the fall
    pub optimal_fallen : IsOptimal net terms knees (fallen st moves fall)
    optimal_fallen = record {
      tight = record {
        starts = omega (arith, optimal.tight.starts);
        tight = λ a l. tight_shifted terms knees a
            (tail_at net.arcs stretch fall a) (head_at net.arcs stretch fall a)
            (st.time (from_of net.arcs a) - fall_of moves fall (from_of net.arcs a)) (st.time (to_of net.arcs a) - fall_of moves fall (to_of net.arcs a)) (st.flow a) (st.beside a)
            (omega (arith, falls_above (from_of net.arcs a) (priced.range.from_in a l), falls_above (to_of net.arcs a) (priced.range.to_in a l))) (tight_fallen a l);
      };
      ends = omega (arith, optimal.ends, cond-true (moves net.end) fall 0 falls.stuck.end_moves);
      flow = optimal.flow;
    }

    -- a fall does not pass the all-crash length
    pub fall_in_range : (shortest : ℕ) → IsAllCrashLength net terms shortest → shortest + fall ≤ st.limit
    fall_in_range shortest longest =
        omega (arith, fall_within, within_range net terms knees (fallen st moves fall) shortest priced optimal_fallen longest)
