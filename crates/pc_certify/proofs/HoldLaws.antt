-- The conditions at a line hold where its row is right.
use Rattle.std.proofs.Common.{◌≡◌, ℕ, ◌+◌, ◌<◌, ◌≤◌, Bool, true, false, not, ◌&&◌, ◌||◌, List, length, None, refl, arith, inl, inr}
use Rattle.std.proofs.lemmas.Bool.{eqb-true, eq-eqb, lt-ltb, ltb-true, le-leb, cases_eq, and_from, or_left, or_right, not_from_false}
use Rattle.std.proofs.lemmas.Slice.Eq.{bytes_eq-Decides}
use Rattle.std.specs.Prelude.{◌==◌, nat_lt, nat_le, bytes_eq, slice_index}
use Rattle.pc_model.specs.Codes.{text_at}
use Rattle.pc_model.specs.Schedule.{normal_of, crash_of, lesser_of}
use Rattle.pc_laws.specs.Tight.{IsSlackAtKnee, IsSlack}
use Rattle.pc_laws.specs.Segment.{span, head_at, tail_at}
use Rattle.pc_crash.specs.Priced.{PricedNetwork, knees_in}
use Rattle.pc_cert.specs.declared.line.CertLine.TheVariants.{Event, Act, Close}
use Rattle.pc_check.specs.Known.{Known, each_below, frame}
use Rattle.pc_check.specs.KneeTests.{is_slack_at_knee}
use Rattle.pc_check.specs.Conditions.{conditions, is_one_length, is_slack_in, is_code_at, is_right_start, is_right_end, rests_in_one_length, has_act_code}
use Rattle.pc_check.specs.Conditions.{has_room, has_duration, is_within_capacity, is_slack, is_still_in_one_length, is_conserved, has_cut_gain, has_stop}
use Rattle.pc_check.specs.Failures.{first_failing}
use Rattle.pc_check.proofs.GoodRows.{IsRightEvent, IsRightAct}
use Rattle.pc_check.proofs.GoodSegments.{Closes}
use Rattle.pc_check.proofs.BelowLaws.{each_below-all}
use Rattle.pc_certify.proofs.PassLaws.{holds_on}

-- where a test passes, another one does
when : (test other : Bool) → (test ≡ true → other ≡ true) → (not test || other) ≡ true
when true other h = h refl
when false other h = refl

-- where one test passes, the other one does not
never_both : (a b : Bool) → (a ≡ true → b ≡ false) → not (a && b) ≡ true
never_both true b h = not_from_false b (h refl)
never_both false b h = refl

-- a code is equal to itself
pub same_code : (code : List ℕ) → bytes_eq code code ≡ true
same_code code = (bytes_eq-Decides code code).1 refl

code_is : (count i : ℕ) (codes : List (List ℕ)) → i < count → is_code_at count codes i (text_at codes i) ≡ true
code_is count i codes lt = and_from _ _ (lt-ltb i count lt) (same_code (text_at codes i))

-- an event whose row is right
pub event_holds : (net : PricedNetwork) (known : Known) (time : ℕ) (moves : Bool) → known.events < net.network.events → known.lower ≤ known.upper
    → IsRightEvent net.network known.upper known.lower known.events (record { code = text_at net.events known.events; time = time; moves = moves })
    → first_failing (conditions net known (Event (text_at net.events known.events) time moves)) ≡ None
event_holds net known time moves lt ordered h =
    let code = text_at net.events known.events in
    let start : is_right_start net.network known.events time moves ≡ true = when (known.events == net.network.start) (time == 0 && not moves) (λ is.
    let at = eqb-true known.events net.network.start is in and_from _ _ (eq-eqb time 0 (h.start_time at)) (not_from_false moves (h.start_rests at))) in
    let end : is_right_end net.network known time moves ≡ true = when (known.events == net.network.end) (time == known.upper && (moves || is_one_length known)) (λ is.
    let at = eqb-true known.events net.network.end is in and_from _ _ (eq-eqb time known.upper (h.end_time at)) (elim (cases_eq known.upper known.lower) [
      | inl same ↦ or_right moves (is_one_length known) (eq-eqb known.upper known.lower same)
      | inr other ↦ or_left moves (is_one_length known) (h.end_moves at (omega arith))
    ])) in
    holds_on (is_code_at net.network.events net.events known.events code) _ 4 (code_is net.network.events known.events net.events lt)
    (holds_on (is_right_start net.network known.events time moves && is_right_end net.network known time moves) _ 5 (and_from _ _ start end)
    (holds_on (rests_in_one_length known moves) None 15 (never_both (is_one_length known) moves (λ is. h.rests (eqb-true known.upper known.lower is))) refl))

slack_holds_at : (head tail knee rise flow : ℕ) → IsSlackAtKnee tail head knee rise flow → is_slack_at_knee head tail knee rise flow ≡ true
slack_holds_at head tail knee rise flow h = and_from _ _
    (when (nat_lt (tail + knee) head) (flow == 0) (λ is. eq-eqb flow 0 (h.above (ltb-true (tail + knee) head is))))
    (when (nat_lt head (tail + knee)) (flow == rise) (λ is. eq-eqb flow rise (h.below (ltb-true head (tail + knee) is))))

slack_holds : (net : PricedNetwork) (head tail a : ℕ) (flows : List ℕ) →
    IsSlack net.terms (knees_in net) a tail head (slice_index flows) (slice_index flows ((knees_in net).count a)) →
    is_slack_in net head tail a flows ≡ true
slack_holds net head tail a flows h = and_from _ _
    (each_below-all ((knees_in net).count a) (λ k. is_slack_at_knee head tail ((knees_in net).knee a k) ((knees_in net).rise a k) (slice_index flows k))
    (λ k lt. slack_holds_at head tail ((knees_in net).knee a k) ((knees_in net).rise a k) (slice_index flows k) (h.at_knees k lt)))
    (when (nat_lt (tail + crash_of net.terms a) head) (slice_index flows ((knees_in net).count a) == 0)
    (λ is. eq-eqb (slice_index flows ((knees_in net).count a)) 0 (h.above_crash (ltb-true (tail + crash_of net.terms a) head is))))

-- an activity whose row is right
pub act_holds : (net : PricedNetwork) (known : Known) (duration : ℕ) (flows : List ℕ) → known.acts < length net.network.arcs → length flows ≡ (knees_in net).count known.acts + 1
    → IsRightAct net (known.segments == 0) (frame known) known.acts (record { code = text_at net.activities known.acts; duration = duration; flows = flows })
    → first_failing (conditions net known (Act (text_at net.activities known.acts) duration flows)) ≡ None
act_holds net known duration flows lt long h =
    let a = known.acts in
    let seg = frame known in
    let arcs = net.network.arcs in
    let code = text_at net.activities a in
    holds_on (has_act_code net a code flows) _ 4 (and_from _ _ (code_is (length arcs) a net.activities lt) (eq-eqb (length flows) ((knees_in net).count a + 1) long))
    (holds_on (has_room net seg 0 a && has_room net seg (span seg) a) _ 6 (and_from _ _
    (le-leb (tail_at arcs seg 0 a + crash_of net.terms a) (head_at arcs seg 0 a) h.room_upper)
    (le-leb (tail_at arcs seg (span seg) a + crash_of net.terms a) (head_at arcs seg (span seg) a) h.room_lower))
    (holds_on (has_duration net known a duration) _ 7 (and_from _ _
    (eq-eqb duration (lesser_of net.network net.terms known.time a) h.duration)
    (when (known.segments == 0) (duration == normal_of net.terms a) (λ first. eq-eqb duration (normal_of net.terms a) (h.normal first))))
    (holds_on (is_within_capacity net a flows) _ 8
    (each_below-all ((knees_in net).count a) (λ k. nat_le (slice_index flows k) ((knees_in net).rise a k))
    (λ k within. le-leb (slice_index flows k) ((knees_in net).rise a k) (h.capacity k within)))
    (holds_on (is_slack net seg 0 a flows && is_slack net seg (span seg) a flows) _ 11 (and_from _ _
    (slack_holds net (head_at arcs seg 0 a) (tail_at arcs seg 0 a) a flows h.slack_upper)
    (slack_holds net (head_at arcs seg (span seg) a) (tail_at arcs seg (span seg) a) a flows h.slack_lower))
    (holds_on (is_still_in_one_length net known a flows) None 15
    (when (is_one_length known) (each_below ((knees_in net).count a + 1) (λ k. slice_index flows k == 0)) (λ is.
    each_below-all ((knees_in net).count a + 1) (λ k. slice_index flows k == 0) (λ k within. eq-eqb (slice_index flows k) 0 (h.still (eqb-true known.upper known.lower is) k within))))
    refl)))))

-- but in a segment of one length
unless_one : (known : Known) (test : Bool) → known.lower ≤ known.upper → (known.lower < known.upper → test ≡ true) → (is_one_length known || test) ≡ true
unless_one known test ordered h = elim (cases_eq known.upper known.lower) [
  | inl same ↦ or_left (is_one_length known) test (eq-eqb known.upper known.lower same)
  | inr other ↦ or_right (is_one_length known) test (h (omega arith))
]

conserved_at : (net : PricedNetwork) (known : Known) (e : ℕ) → Closes net known → e < net.network.events
    → (e == net.network.start || (e == net.network.end || known.inflow e == known.outflow e)) ≡ true
conserved_at priced known e h lt = let net = priced.network in elim (cases_eq e net.start) [
  | inl start ↦ or_left (e == net.start) (e == net.end || known.inflow e == known.outflow e) (eq-eqb e net.start start)
  | inr not_start ↦ or_right (e == net.start) (e == net.end || known.inflow e == known.outflow e) (elim (cases_eq e net.end) [
    | inl end ↦ or_left (e == net.end) (known.inflow e == known.outflow e) (eq-eqb e net.end end)
    | inr not_end ↦ or_right (e == net.end) (known.inflow e == known.outflow e) (eq-eqb (known.inflow e) (known.outflow e) (h.conserved e lt not_start not_end))
  ])
]

pub close_holds : (net : PricedNetwork) (known : Known) → known.lower ≤ known.upper → Closes net known → first_failing (conditions net known Close) ≡ None
close_holds net known ordered h =
    holds_on (is_conserved net.network known) _ 9
    (each_below-all net.network.events (λ e. e == net.network.start || (e == net.network.end || known.inflow e == known.outflow e))
    (λ e lt. conserved_at net known e h lt))
    (holds_on (known.outflow net.network.start == known.slope) _ 10 (eq-eqb (known.outflow net.network.start) known.slope h.leaves)
    (holds_on (known.spent == known.cost) _ 12 (eq-eqb known.spent known.cost h.costs)
    (holds_on (has_cut_gain known) _ 13 (unless_one known (known.forward == known.backward + known.slope) ordered (λ below. eq-eqb known.forward (known.backward + known.slope) (h.cut below)))
    (holds_on (has_stop known) None 14 (unless_one known known.stops ordered h.stops) refl))))
