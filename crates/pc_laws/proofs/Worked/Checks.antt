-- Tests of a segment in numbers, and that one which passes them is right: so segments worked by hand are proved by
-- computing.
use Rattle.std.proofs.Common.{◌≡◌, ◌≢◌, ◌<◌, ◌+◌, ◌==◌, if◌then◌else◌, nat_lt, nat_le, ⊎_elim, ℕ, zero, suc, Bool, true, false, not, ◌&&◌, List, length, sym, subst, arith}
use Rattle.std.proofs.lemmas.Bool.{and_parts, not-true, leb-true, ltb-true, eqb-true, lt-ltb, cases_eq, ne_eqb, cond-false}
use Rattle.pc_laws.proofs.Segments.Readings.{cut_rises}
use Rattle.std.proofs.lemmas.Int.{ints}
use Rattle.pc_model.specs.declared.Term.{Term}
use Rattle.pc_model.specs.Network.{Network}
use Rattle.pc_model.specs.Schedule.{crash_of, lesser_of}
use Rattle.pc_model.specs.Cost.{Knees, cost_of, IsPriced}
use Rattle.pc_laws.specs.Flow.{whole_flow, inflow, outflow}
use Rattle.pc_laws.specs.Segment.{Segment, span, head_at, tail_at, IsSlackAt, IsRightSegment, StopsAtLower, IsSegment}

-- what holds at 0 to 3 holds below 4
pub each4 : (P : ℕ → Type 0) → P 0 → P 1 → P 2 → P 3 → (a : ℕ) → a < 4 → P a
each4 P p q r s zero below = p
each4 P p q r s (suc zero) below = q
each4 P p q r s (suc (suc zero)) below = r
each4 P p q r s (suc (suc (suc zero))) below = s
each4 P p q r s (suc (suc (suc (suc a)))) below = absurd (omega arith)

-- the test passes at each number below n
abbrev all : ℕ → (ℕ → Bool) → Bool
all zero test = true
all (suc n) test = all n test && test n

all-at : (n : ℕ) (test : ℕ → Bool) → all n test ≡ true → (a : ℕ) → a < n → test a ≡ true
all-at zero test passed a l = absurd (omega arith)
all-at (suc n) test passed a l =
    let both = and_parts (all n test) (test n) passed in
    ⊎_elim (λ same. subst (λ m. test m ≡ true) (sym same) both.1) (λ ne. all-at n test both.0 a (omega arith)) (cases_eq a n)

-- the second test passes where the first does
abbrev if_so : Bool → Bool → Bool
if_so premise test = if premise then test else true

then-true : (premise test : Bool) → if_so premise test ≡ true → premise ≡ true → test ≡ true
then-true true test passed is = passed
then-true false test passed is = absurd cc

module _ (net : Network) (terms : List Term) (knees : Knees) (seg : Segment) where
  -- at one knee
  abbrev slack_test : ℕ → ℕ → ℕ → Bool
  slack_test fall a k =
      if_so (nat_lt (tail_at net.arcs seg fall a + knees.knee a k) (head_at net.arcs seg fall a)) (seg.flow a k == 0)
      && if_so (nat_lt (head_at net.arcs seg fall a) (tail_at net.arcs seg fall a + knees.knee a k)) (seg.flow a k == knees.rise a k)

  -- at one end
  abbrev end_test : ℕ → ℕ → Bool
  end_test fall a =
      nat_le (tail_at net.arcs seg fall a + crash_of terms a) (head_at net.arcs seg fall a)
      && (if_so (nat_lt (tail_at net.arcs seg fall a + crash_of terms a) (head_at net.arcs seg fall a)) (seg.beside a == 0)
      && all (knees.count a) (slack_test fall a))

  abbrev capacity_test : ℕ → Bool
  capacity_test a = all (knees.count a) (λ k. nat_le (seg.flow a k) (knees.rise a k))

  abbrev activity_test : ℕ → Bool
  activity_test a =
      (seg.duration a == lesser_of net terms seg.time a)
      && (capacity_test a && (end_test 0 a && end_test (span seg) a))

  abbrev event_test : ℕ → Bool
  event_test e =
      if e == net.start then true
      else if e == net.end then true
      else inflow net (whole_flow knees seg.flow seg.beside) e == outflow net (whole_flow knees seg.flow seg.beside) e

  abbrev ends_test : Bool
  ends_test = (seg.time net.start == 0) && (not (seg.moves net.start) && ((seg.time net.end == seg.upper) && seg.moves net.end))

  -- a long segment passes all tests
  abbrev pub passes : Bool
  passes =
      nat_lt seg.lower seg.upper
      && (ends_test
      && (all (length net.arcs) activity_test
      && (all net.events event_test
      && ((outflow net (whole_flow knees seg.flow seg.beside) net.start == seg.slope) && (cost_of terms knees seg.duration == seg.cost)))))

  slack_from : (fall a : ℕ) → end_test fall a ≡ true → IsSlackAt net terms knees seg fall a
  slack_from fall a passed =
      let rest = (and_parts _ _ passed).1 in
      let (above, each) = and_parts _ _ rest in
      record {
        at_knees = λ k l.
            let (far, near) = and_parts _ _ (all-at (knees.count a) (slack_test fall a) each k l) in
            record {
              above = λ h. eqb-true _ _ (then-true _ _ far (lt-ltb _ _ h));
              below = λ h. eqb-true _ _ (then-true _ _ near (lt-ltb _ _ h));
            };
        above_crash = λ h. eqb-true _ _ (then-true _ _ above (lt-ltb _ _ h));
      }

  -- one that passes is right
  right_from : passes ≡ true → IsRightSegment net terms knees seg
  right_from passed =
      let (long, after_long) = and_parts _ _ passed in
      let (ends, after_ends) = and_parts _ _ after_long in
      let (start_time, after_start) = and_parts _ _ ends in
      let (start_rests, end) = and_parts _ _ after_start in
      let (end_time, end_moves) = and_parts _ _ end in
      let (activities, after_activities) = and_parts _ _ after_ends in
      let (events, sums) = and_parts _ _ after_activities in
      let (leaves, costs) = and_parts _ _ sums in
      let is_long : seg.lower < seg.upper = ltb-true _ _ long in
      record {
        ends = record { start_time = eqb-true _ _ start_time; start_rests = not-true _ start_rests; end_time = eqb-true _ _ end_time; end_moves = λ l. end_moves };
        room_at_upper = λ a l. leb-true _ _ (and_parts _ _ (at activities a l).2).0;
        room_at_lower = λ a l. leb-true _ _ (and_parts _ _ (at activities a l).3).0;
        durations = λ a l. eqb-true _ _ (at activities a l).0;
        capacity = λ a k l below. leb-true _ _ (all-at (knees.count a) (λ k. nat_le (seg.flow a k) (knees.rise a k)) (at activities a l).1 k below);
        conserved = λ e l s t. through e s t (all-at net.events event_test events e l);
        leaves = eqb-true _ _ leaves;
        slack_at_upper = λ a l. slack_from 0 a (at activities a l).2;
        slack_at_lower = λ a l. slack_from (span seg) a (at activities a l).3;
        costs = eqb-true _ _ costs;
        proper = record { ordered = omega arith; degenerate = λ same. absurd (omega arith) };
      }
    where
      at : all (length net.arcs) activity_test ≡ true → (a : ℕ) → a < length net.arcs →
          ((seg.duration a == lesser_of net terms seg.time a) ≡ true) × (capacity_test a ≡ true) × (end_test 0 a ≡ true) × (end_test (span seg) a ≡ true)
      at activities a l =
          let (durations, rest) = and_parts _ _ (all-at (length net.arcs) activity_test activities a l) in
          let (capacities, ends) = and_parts _ _ rest in
          let (upper, lower) = and_parts _ _ ends in
          (durations, capacities, upper, lower)

      through : (e : ℕ) → e ≢ net.start → e ≢ net.end → event_test e ≡ true →
          inflow net (whole_flow knees seg.flow seg.beside) e ≡ outflow net (whole_flow knees seg.flow seg.beside) e
      through e s t passed =
          eqb-true _ _ (subst (λ b. b ≡ true) (cond-false (e == net.end) true _ (ne_eqb e net.end t))
          (subst (λ b. b ≡ true) (cond-false (e == net.start) true _ (ne_eqb e net.start s)) passed))

  -- and with an activity that stops it is complete
  pub whole_from : IsPriced net terms knees → passes ≡ true → StopsAtLower net terms knees seg → IsSegment net terms knees seg
  whole_from priced passed stops = record {
    right = right_from passed;
    cut = λ long. omega (arith, ints, cut_rises net terms knees priced seg (right_from passed));
    stops = λ long. stops;
  }
