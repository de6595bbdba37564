-- What the conditions show of each row.
use Rattle.std.proofs.Common.{◌≡◌, ℕ, ◌+◌, ◌<◌, ◌≤◌, Bool, true, false, not, ◌&&◌, ◌||◌, List, None, refl, arith}
use Rattle.std.proofs.lemmas.Bool.{eqb-true, eq-eqb, lt-ltb, ne_eqb, leb-true, and_parts, not-true}
use Rattle.std.specs.Prelude.{◌==◌, nat_lt, nat_le, slice_index}
use Rattle.pc_model.specs.Network.{Network}
use Rattle.pc_model.specs.Schedule.{normal_of, crash_of, lesser_of}
use Rattle.pc_laws.specs.Tight.{IsSlackAtKnee, IsSlack}
use Rattle.pc_laws.specs.Segment.{Segment, span, head_at, tail_at, HasRoomAt}
use Rattle.pc_crash.specs.Priced.{PricedNetwork, knees_in}
use Rattle.pc_cert.specs.declared.line.CertLine.TheVariants.{Event, Act}
use Rattle.pc_check.specs.Draft.{EventRow, ActRow}
use Rattle.pc_check.specs.Known.{Known, frame}
use Rattle.pc_check.specs.KneeTests.{is_slack_at_knee}
use Rattle.pc_check.specs.Conditions.{conditions, is_one_length, is_slack_in}
use Rattle.pc_check.specs.Failures.{first_failing}
use Rattle.pc_check.proofs.BelowLaws.{each_below-at}
use Rattle.pc_check.proofs.ReasonLaws.{holds_first}

-- an event's row is right
pub record IsRightEvent (net : Network) (u l e : ℕ) (row : EventRow) : Type 0 where
  pub start_time : e ≡ net.start → row.time ≡ 0
  pub start_rests : e ≡ net.start → row.moves ≡ false
  pub end_time : e ≡ net.end → row.time ≡ u
  pub end_moves : e ≡ net.end → l < u → row.moves ≡ true
  pub rests : u ≡ l → row.moves ≡ false

-- an activity's row is right
pub record IsRightAct (net : PricedNetwork) (first : Bool) (seg : Segment) (a : ℕ) (row : ActRow) : Type 0 where
  pub room_upper : HasRoomAt net.network net.terms seg 0 a
  pub room_lower : HasRoomAt net.network net.terms seg (span seg) a
  pub duration : row.duration ≡ lesser_of net.network net.terms seg.time a
  pub normal : first ≡ true → row.duration ≡ normal_of net.terms a
  pub capacity : (k : ℕ) → k < (knees_in net).count a → slice_index row.flows k ≤ (knees_in net).rise a k
  pub slack_upper : IsSlack net.terms (knees_in net) a (tail_at net.network.arcs seg 0 a) (head_at net.network.arcs seg 0 a) (slice_index row.flows) (slice_index row.flows ((knees_in net).count a))
  pub slack_lower : IsSlack net.terms (knees_in net) a (tail_at net.network.arcs seg (span seg) a)
      (head_at net.network.arcs seg (span seg) a) (slice_index row.flows) (slice_index row.flows ((knees_in net).count a))
  pub still : seg.upper ≡ seg.lower → (k : ℕ) → k < (knees_in net).count a + 1 → slice_index row.flows k ≡ 0

unless : (b other : Bool) → (not b || other) ≡ true → b ≡ true → other ≡ true
unless true other h is = h
unless false other h is = absurd cc

not_both : (a b : Bool) → not (a && b) ≡ true → a ≡ true → b ≡ false
not_both true true h is = absurd cc
not_both true false h is = refl
not_both false b h is = absurd cc

either : (a b : Bool) → (a || b) ≡ true → b ≡ false → a ≡ true
either true b h no_b = refl
either false b h no_b = absurd cc

-- what the conditions at an EVENT line show
pub right_event : (net : PricedNetwork) (known : Known) (code : List ℕ) (time : ℕ) (moves : Bool) →
    first_failing (conditions net known (Event code time moves)) ≡ None →
    IsRightEvent net.network known.upper known.lower known.events (record { code = code; time = time; moves = moves })
right_event net known code time moves h =
    let four = holds_first _ _ _ h in
    let five = holds_first _ _ _ (four.1) in
    let rests = (holds_first _ _ _ (five.1)).0 in
    let ends = and_parts _ _ (five.0) in
    let start = λ (is : known.events ≡ net.network.start). and_parts (time == 0) (not moves) (unless (known.events == net.network.start) _ (ends.0) (eq-eqb known.events net.network.start is)) in
    let end = λ (is : known.events ≡ net.network.end). and_parts (time == known.upper) (moves || is_one_length known)
    (unless (known.events == net.network.end) _ (ends.1) (eq-eqb known.events net.network.end is)) in
    record {
      start_time = λ is. eqb-true time 0 ((start is).0);
      start_rests = λ is. not-true moves ((start is).1);
      end_time = λ is. eqb-true time known.upper ((end is).0);
      end_moves = λ is below. either moves (is_one_length known) ((end is).1) (ne_eqb known.upper known.lower (λ same. absurd (omega (arith, below, same))));
      rests = λ same. not_both (is_one_length known) moves rests (eq-eqb known.upper known.lower same);
    }

slack_at_knee : (head tail knee rise flow : ℕ) → is_slack_at_knee head tail knee rise flow ≡ true → IsSlackAtKnee tail head knee rise flow
slack_at_knee head tail knee rise flow h =
    let both = and_parts _ _ h in
    record {
      above = λ lt. eqb-true flow 0 (unless (nat_lt (tail + knee) head) (flow == 0) (both.0) (lt-ltb (tail + knee) head lt));
      below = λ lt. eqb-true flow rise (unless (nat_lt head (tail + knee)) (flow == rise) (both.1) (lt-ltb head (tail + knee) lt));
    }

slack_from : (net : PricedNetwork) (head tail a : ℕ) (flows : List ℕ) → is_slack_in net head tail a flows ≡ true →
    IsSlack net.terms (knees_in net) a tail head (slice_index flows) (slice_index flows ((knees_in net).count a))
slack_from net head tail a flows h =
    let both = and_parts _ _ h in
    record {
      at_knees = λ k lt. slack_at_knee head tail ((knees_in net).knee a k) ((knees_in net).rise a k) (slice_index flows k)
          (each_below-at ((knees_in net).count a)
          (λ k. is_slack_at_knee head tail ((knees_in net).knee a k) ((knees_in net).rise a k) (slice_index flows k)) k (both.0) lt);
      above_crash = λ lt. eqb-true (slice_index flows ((knees_in net).count a)) 0 (unless (nat_lt (tail + crash_of net.terms a) head) _ (both.1) (lt-ltb (tail + crash_of net.terms a) head lt));
    }

-- what the conditions at an ACT line show
pub right_act : (net : PricedNetwork) (known : Known) (code : List ℕ) (duration : ℕ) (flows : List ℕ) →
    first_failing (conditions net known (Act code duration flows)) ≡ None →
    IsRightAct net (known.segments == 0) (frame known) known.acts (record { code = code; duration = duration; flows = flows })
right_act net known code duration flows h =
    let four = holds_first _ _ _ h in
    let six = holds_first _ _ _ (four.1) in
    let seven = holds_first _ _ _ (six.1) in
    let eight = holds_first _ _ _ (seven.1) in
    let eleven = holds_first _ _ _ (eight.1) in
    let fifteen = (holds_first _ _ _ (eleven.1)).0 in
    let room = and_parts _ _ (six.0) in
    let lasts = and_parts _ _ (seven.0) in
    let slack = and_parts _ _ (eleven.0) in
    let seg = frame known in
    let a = known.acts in
    record {
      room_upper = leb-true (tail_at net.network.arcs seg 0 a + crash_of net.terms a) (head_at net.network.arcs seg 0 a) (room.0);
      room_lower = leb-true (tail_at net.network.arcs seg (span seg) a + crash_of net.terms a) (head_at net.network.arcs seg (span seg) a) (room.1);
      duration = eqb-true duration (lesser_of net.network net.terms known.time a) (lasts.0);
      normal = λ first. eqb-true duration (normal_of net.terms a) (unless (known.segments == 0) (duration == normal_of net.terms a) (lasts.1) first);
      capacity = λ k lt. leb-true (slice_index flows k) ((knees_in net).rise a k) (each_below-at ((knees_in net).count a) (λ k. nat_le (slice_index flows k) ((knees_in net).rise a k)) k (eight.0) lt);
      slack_upper = slack_from net (head_at net.network.arcs seg 0 a) (tail_at net.network.arcs seg 0 a) a flows (slack.0);
      slack_lower = slack_from net (head_at net.network.arcs seg (span seg) a) (tail_at net.network.arcs seg (span seg) a) a flows (slack.1);
      still = λ same k lt. eqb-true (slice_index flows k) 0
          (each_below-at ((knees_in net).count a + 1) (λ k. slice_index flows k == 0) k
          (unless (is_one_length known) _ fifteen (eq-eqb known.upper known.lower same)) lt);
    }
