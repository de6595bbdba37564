-- The rows that are written of a complete segment are right.
use Rattle.std.proofs.Common.{◌≡◌, ℕ, ◌+◌, ◌<◌, ◌≤◌, Bool, true, false, [], ◌∷◌, length, sym, ap, ◌∙◌, subst, arith, inl, inr, length-append}
use Rattle.std.proofs.lemmas.Bool.{cases_eq}
use Rattle.std.specs.Prelude.{slice_index}
use Rattle.pc_model.specs.Network.{IsInRange}
use Rattle.pc_model.specs.Schedule.{normal_of, crash_of}
use Rattle.pc_laws.specs.Tight.{IsSlack}
use Rattle.pc_laws.specs.Segment.{Segment, span, head_at, tail_at, IsRightSegment}
use Rattle.pc_crash.specs.Priced.{PricedNetwork, knees_in}
use Rattle.pc_check.specs.Draft.{event_at, act_at, EventRow, ActRow, Part}
use Rattle.pc_check.proofs.GoodRows.{IsRightEvent, IsRightAct}
use Rattle.pc_cert.specs.Listed.{listed}
use Rattle.pc_cert.specs.Document.{flows_along}
use Rattle.pc_cert.proofs.ListedLaws.{length-listed, listed-at, listed-last, listed-before}
use Rattle.pc_certify.proofs.SameLaws.{MoveSame, head_same, tail_same, low_head_same, low_tail_same, lesser_same}
use Rattle.pc_model.specs.Codes.{text_at}

-- what the line of event e says
abbrev pub event_row : PricedNetwork → Segment → ℕ → EventRow
event_row net seg e = record { code = text_at net.events e; time = seg.time e; moves = seg.moves e }

-- what the line of activity a says
abbrev pub act_row : PricedNetwork → Segment → ℕ → ActRow
act_row net seg a = record { code = text_at net.activities a; duration = seg.duration a; flows = flows_along net seg a }

-- what all of them say
abbrev pub part_of : PricedNetwork → Segment → Part
part_of net seg = record {
  upper = seg.upper;
  lower = seg.lower;
  cost = seg.cost;
  slope = seg.slope;
  events = listed net.network.events (event_row net seg);
  acts = listed (length net.network.arcs) (act_row net seg);
}

-- ---- the rows as they are read back

module _ (net : PricedNetwork) (seg : Segment) where
  pub event_is : (e : ℕ) → e < net.network.events → event_at (listed net.network.events (event_row net seg)) e ≡ event_row net seg e
  event_is e lt = listed-at net.network.events (event_row net seg) e (record { code = []; time = 0; moves = false }) lt

  pub act_is : (a : ℕ) → a < length net.network.arcs → act_at (listed (length net.network.arcs) (act_row net seg)) a ≡ act_row net seg a
  act_is a lt = listed-at (length net.network.arcs) (act_row net seg) a (record { code = []; duration = 0; flows = [] }) lt

  pub flow_is : (a k : ℕ) → k < (knees_in net).count a → slice_index (flows_along net seg a) k ≡ seg.flow a k
  flow_is a k lt = listed-before ((knees_in net).count a) (seg.flow a) k (seg.beside a) 0 lt

  pub beside_is : (a : ℕ) → slice_index (flows_along net seg a) ((knees_in net).count a) ≡ seg.beside a
  beside_is a = listed-last ((knees_in net).count a) (seg.flow a) (seg.beside a) 0

  pub flows_long : (a : ℕ) → length (flows_along net seg a) ≡ (knees_in net).count a + 1
  flows_long a = omega (arith, length-listed ((knees_in net).count a) (seg.flow a), length-append (listed ((knees_in net).count a) (seg.flow a)) (seg.beside a ∷ []))

-- ---- events

pub right_event : (net : PricedNetwork) (seg : Segment) → IsRightSegment net.network net.terms (knees_in net) seg → (e : ℕ) →
    e < net.network.events → IsRightEvent net.network seg.upper seg.lower e (event_row net seg e)
right_event net seg right e lt = record {
  start_time = λ is. ap seg.time is ∙ right.ends.start_time;
  start_rests = λ is. ap seg.moves is ∙ right.ends.start_rests;
  end_time = λ is. ap seg.time is ∙ right.ends.end_time;
  end_moves = λ is below. ap seg.moves is ∙ right.ends.end_moves below;
  rests = λ same. (right.proper.degenerate (sym same)).rests e lt;
}

-- ---- activities

module _ (net : PricedNetwork) (seg : Segment) (right : IsRightSegment net.network net.terms (knees_in net) seg) (a : ℕ) (lt : a < length net.network.arcs) where
  -- flows that fit a gap, read back
  slack_read : (tail head t h : ℕ) → t ≡ tail → h ≡ head → IsSlack net.terms (knees_in net) a tail head (seg.flow a) (seg.beside a)
      → IsSlack net.terms (knees_in net) a t h (slice_index (flows_along net seg a)) (slice_index (flows_along net seg a) ((knees_in net).count a))
  slack_read tail head t h tails heads slack = record {
    at_knees = λ k within. record {
      above = λ above. flow_is net seg a k within ∙ (slack.at_knees k within).above (omega (arith, tails, heads, above));
      below = λ below. flow_is net seg a k within ∙ (slack.at_knees k within).below (omega (arith, tails, heads, below));
    };
    above_crash = λ above. beside_is net seg a ∙ slack.above_crash (omega (arith, tails, heads, above));
  }

  -- nothing flows in a segment of one length
  nothing_flows : seg.upper ≡ seg.lower → (k : ℕ) → k < (knees_in net).count a + 1 → slice_index (flows_along net seg a) k ≡ 0
  nothing_flows same k within = elim (cases_eq k ((knees_in net).count a)) [
    | inl last ↦ ap (slice_index (flows_along net seg a)) last ∙ beside_is net seg a ∙ (right.proper.degenerate (sym same)).empty_beside a lt
    | inr other ↦
        let before : k < (knees_in net).count a = omega arith in
        flow_is net seg a k before ∙ (right.proper.degenerate (sym same)).empty a k lt before
  ]

  pub right_act : IsInRange net.network → (first : Bool) (other : Segment) → MoveSame net seg other →
      (first ≡ true → seg.duration a ≡ normal_of net.terms a) → IsRightAct net first other a (act_row net seg a)
  right_act range first other same normal =
      let arcs = net.network.arcs in
      let high_head = head_same net range seg other same a lt 0 in
      let high_tail = tail_same net range seg other same a lt 0 in
      let low_head = low_head_same net range seg other same a lt in
      let low_tail = low_tail_same net range seg other same a lt in
      let room_upper : tail_at arcs seg 0 a + crash_of net.terms a ≤ head_at arcs seg 0 a = right.room_at_upper a lt in
      let room_lower : tail_at arcs seg (span seg) a + crash_of net.terms a ≤ head_at arcs seg (span seg) a = right.room_at_lower a lt in
      record {
        room_upper = subst (λ h. tail_at arcs other 0 a + crash_of net.terms a ≤ h) (sym high_head) (subst (λ t. t + crash_of net.terms a ≤ head_at arcs seg 0 a) (sym high_tail) room_upper);
        room_lower = subst (λ h. tail_at arcs other (span other) a + crash_of net.terms a ≤ h) (sym low_head)
            (subst (λ t. t + crash_of net.terms a ≤ head_at arcs seg (span seg) a) (sym low_tail) room_lower);
        duration = right.durations a lt ∙ sym (lesser_same net range seg other same a lt);
        normal = normal;
        capacity = λ k within. subst (λ f. f ≤ (knees_in net).rise a k) (sym (flow_is net seg a k within)) (right.capacity a k lt within);
        slack_upper = slack_read _ _ _ _ high_tail high_head (right.slack_at_upper a lt);
        slack_lower = slack_read _ _ _ _ low_tail low_head (right.slack_at_lower a lt);
        still = λ is k within. nothing_flows (sym same.upper ∙ is ∙ same.lower) k within;
      }
