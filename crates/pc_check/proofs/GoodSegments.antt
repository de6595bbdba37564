-- Right rows, and the conditions at the end of a segment, make a complete segment.
use Rattle.std.proofs.Common.{◌≡◌, ◌≢◌, ℕ, ◌+◌, ◌<◌, ◌≤◌, Bool, true, false, ◌||◌, cond, length, inl, inr, None, refl, sym, ap, ◌∙◌, arith, pos}
use Rattle.std.proofs.lemmas.Bool.{eqb-true, ltb-true, lt-ltb, ne_eqb, and_parts, or_cases}
use Rattle.std.proofs.lemmas.Int.{ints}
use Rattle.std.specs.Prelude.{◌==◌, ◌-ℤ◌}
use Rattle.pc_model.specs.Sums.{sum_to, at_event}
use Rattle.pc_model.specs.Walk.{from_of, to_of}
use Rattle.pc_model.specs.Cost.{IsPriced, activity_cost}
use Rattle.pc_laws.specs.Segment.{Segment, IsSegment, StopsAtLower}
use Rattle.pc_crash.specs.Priced.{PricedNetwork, knees_in}
use Rattle.pc_cert.specs.declared.line.CertLine.TheVariants.{Close}
use Rattle.pc_check.specs.Draft.{Part, Draft, event_at, act_at}
use Rattle.pc_check.specs.Known.{Known}
use Rattle.pc_check.specs.Segments.{segment_in, stops_at_knee_in, stops_in}
use Rattle.pc_check.specs.Said.{flow_along, flow_at, forward_by, backward_by, said}
use Rattle.pc_check.specs.Conditions.{conditions}
use Rattle.pc_check.specs.Failures.{first_failing}
use Rattle.pc_check.proofs.Drafts.{outline}
use Rattle.pc_check.proofs.BelowLaws.{each_below-at, some_below-at}
use Rattle.pc_check.proofs.ReasonLaws.{holds_first}
use Rattle.pc_check.proofs.GoodRows.{IsRightEvent, IsRightAct}

-- the ends of a part are in order, and a part of one length is flat
pub record HasOrderedEnds (part : Part) : Type 0 where
  pub ordered : part.lower ≤ part.upper
  pub flat : part.upper ≡ part.lower → part.slope ≡ 0

-- all rows of a part are right
pub record HasRightRows (net : PricedNetwork) (first : Bool) (part : Part) : Type 0 where
  pub ends : HasOrderedEnds part
  pub events : (e : ℕ) → e < length part.events → IsRightEvent net.network part.upper part.lower e (event_at part.events e)
  pub acts : (a : ℕ) → a < length part.acts → IsRightAct net first (outline part) a (act_at part.acts a)

-- all rows of a part are there
pub record IsWhole (net : PricedNetwork) (part : Part) : Type 0 where
  pub all_events : length part.events ≡ net.network.events
  pub all_acts : length part.acts ≡ length net.network.arcs

-- what the conditions at a CLOSE line show
pub record Closes (net : PricedNetwork) (known : Known) : Type 0 where
  pub conserved : (e : ℕ) → e < net.network.events → e ≢ net.network.start → e ≢ net.network.end → known.inflow e ≡ known.outflow e
  pub leaves : known.outflow net.network.start ≡ known.slope
  pub costs : known.spent ≡ known.cost
  pub cut : known.lower < known.upper → known.forward ≡ known.backward + known.slope
  pub stops : known.lower < known.upper → known.stops ≡ true

otherwise : (a b : Bool) → (a || b) ≡ true → a ≡ false → b ≡ true
otherwise true b h no_a = absurd cc
otherwise false b h no_a = h

apart : (known : Known) → known.lower < known.upper → (known.upper == known.lower) ≡ false
apart known below = ne_eqb known.upper known.lower (λ same. absurd (omega (arith, below, same)))

closes : (net : PricedNetwork) (known : Known) → first_failing (conditions net known Close) ≡ None → Closes net known
closes net known h =
    let nine = holds_first _ _ _ h in
    let ten = holds_first _ _ _ (nine.1) in
    let twelve = holds_first _ _ _ (ten.1) in
    let thirteen = holds_first _ _ _ (twelve.1) in
    let fourteen = holds_first _ _ _ (thirteen.1) in
    record {
      conserved = λ e lt not_start not_end.
          let here = each_below-at net.network.events (λ e. e == net.network.start || (e == net.network.end || known.inflow e == known.outflow e)) e (nine.0) lt in
          eqb-true (known.inflow e) (known.outflow e)
          (otherwise (e == net.network.end) _ (otherwise (e == net.network.start) _ here (ne_eqb e net.network.start not_start))
          (ne_eqb e net.network.end not_end));
      leaves = eqb-true (known.outflow net.network.start) known.slope (ten.0);
      costs = eqb-true known.spent known.cost (twelve.0);
      cut = λ below. eqb-true known.forward (known.backward + known.slope) (otherwise (known.upper == known.lower) _ (thirteen.0) (apart known below));
      stops = λ below. otherwise (known.upper == known.lower) known.stops (fourteen.0) (apart known below);
    }

-- an activity that stops
stops_so : (net : PricedNetwork) (seg : Segment) (a : ℕ) → a < length net.network.arcs → stops_in net seg a ≡ true → StopsAtLower net.network net.terms (knees_in net) seg
stops_so net seg a lt h = elim (or_cases _ _ h) [
  | inl at_crash ↦ let both = and_parts _ _ at_crash in (a, lt, inl (record { forward = both.0; at_crash = eqb-true _ _ (both.1) }))
  | inr at_knee ↦
      let found = some_below-at ((knees_in net).count a) (stops_at_knee_in net seg a) at_knee in
      let both = and_parts _ _ (found.2) in
      elim (or_cases _ _ (both.1)) [
        | inl falls ↦ let parts = and_parts _ _ falls in (a, lt, inr (found.0, found.1, inl (record { forward = parts.0; above = ltb-true _ _ (parts.1); at_knee = eqb-true _ _ (both.0) })))
        | inr rises ↦ let parts = and_parts _ _ rises in (a, lt, inr (found.0, found.1, inr (record { backward = parts.0; below = ltb-true _ _ (parts.1); at_knee = eqb-true _ _ (both.0) })))
      ]
]

-- the flow at an event after all activities
pub flow_at-whole : (net : PricedNetwork) (part : Part) (event_of : ℕ → ℕ) (e : ℕ) → length part.acts ≡ length net.network.arcs →
    e < net.network.events → flow_at net part event_of e ≡ at_event (length net.network.arcs) event_of (flow_along net part) e
flow_at-whole net part event_of e all lt =
    ap (λ b. cond b (at_event (length part.acts) event_of (flow_along net part) e) 0) (lt-ltb e net.network.events lt)
    ∙ ap (λ m. at_event m event_of (flow_along net part) e) all

gained : (f b s : ℕ) → f ≡ b + s → pos f -ℤ pos b ≡ pos s
gained f b s h = omega (arith, ints)

-- a part whose rows are right and whose end does not fail is a complete segment
pub whole_segment : (net : PricedNetwork) (first : Bool) (draft : Draft) → IsPriced net.network net.terms (knees_in net) →
    HasRightRows net first draft.part → IsWhole net draft.part → first_failing (conditions net (said net draft) Close) ≡ None
    → IsSegment net.network net.terms (knees_in net) (segment_in net draft.part)
whole_segment net first draft priced rows whole h =
    let part = draft.part in
    let end = closes net (said net draft) h in
    let event : (e : ℕ) → e < net.network.events → IsRightEvent net.network part.upper part.lower e (event_at part.events e) = λ e lt. rows.events e (omega (arith, lt, whole.all_events)) in
    let act : (a : ℕ) → a < length net.network.arcs → IsRightAct net first (outline part) a (act_at part.acts a) = λ a lt. rows.acts a (omega (arith, lt, whole.all_acts)) in
    let start = event net.network.start priced.range.start_in in
    let finish = event net.network.end priced.range.end_in in
    record {
      right = record {
        ends = record { start_time = start.start_time refl; start_rests = start.start_rests refl; end_time = finish.end_time refl; end_moves = finish.end_moves refl };
        room_at_upper = λ a lt. (act a lt).room_upper;
        room_at_lower = λ a lt. (act a lt).room_lower;
        durations = λ a lt. (act a lt).duration;
        capacity = λ a k lt within. (act a lt).capacity k within;
        conserved = λ e lt not_start not_end. sym (flow_at-whole net part (to_of net.network.arcs) e whole.all_acts lt)
            ∙ end.conserved e lt not_start not_end ∙ flow_at-whole net part (from_of net.network.arcs) e whole.all_acts lt;
        leaves = sym (flow_at-whole net part (from_of net.network.arcs) net.network.start whole.all_acts priced.range.start_in) ∙ end.leaves;
        slack_at_upper = λ a lt. (act a lt).slack_upper;
        slack_at_lower = λ a lt. (act a lt).slack_lower;
        costs = ap (λ m. sum_to m (λ a. activity_cost net.terms (knees_in net) a ((segment_in net part).duration a))) (priced.terms_fit.one_each ∙ sym whole.all_acts) ∙ end.costs;
        proper = record {
          ordered = rows.ends.ordered;
          degenerate = λ same. record {
            flat = rows.ends.flat (sym same);
            rests = λ e lt. (event e lt).rests (sym same);
            empty = λ a k lt within. (act a lt).still (sym same) k (omega (arith, within));
            empty_beside = λ a lt. (act a lt).still (sym same) ((knees_in net).count a) (omega arith);
          };
        };
      };
      cut = λ below. gained _ _ _ (
          ap (λ m. sum_to m (forward_by net (segment_in net part))) (sym whole.all_acts) ∙ end.cut below
          ∙ ap (λ m. sum_to m (backward_by net (segment_in net part)) + part.slope) whole.all_acts);
      stops = λ below.
          let found = some_below-at (length part.acts) (stops_in net (segment_in net part)) (end.stops below) in
          stops_so net (segment_in net part) (found.0) (omega (arith, found.1, whole.all_acts)) (found.2);
    }
