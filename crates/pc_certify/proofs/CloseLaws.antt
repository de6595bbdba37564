-- At the end of a complete segment the conditions hold: the sums over its lines are what it states.
use Rattle.std.proofs.Common.{◌≡◌, ℕ, ◌+◌, ◌<◌, true, length, inl, inr, refl, sym, ap, ◌∙◌, subst, arith, pos}
use Rattle.std.proofs.lemmas.Bool.{eq-eqb, lt-ltb, and_from, or_left, or_right}
use Rattle.std.proofs.lemmas.Int.{ints}
use Rattle.std.specs.Prelude.{◌==◌, ◌-ℤ◌, slice_index, if◌then◌else◌}
use Rattle.pc_model.specs.Sums.{sum_to, at_event}
use Rattle.pc_model.specs.Walk.{from_of, to_of}
use Rattle.pc_model.specs.Cost.{IsPriced, activity_cost}
use Rattle.pc_model.proofs.Sums.{sum_to-same}
use Rattle.pc_laws.specs.Segment.{Segment, IsSegment, StopsAtLower, StopsAtCrash, FallsToKnee, RisesToKnee, forward_rises, backward_rises}
use Rattle.pc_laws.specs.Flow.{whole_flow}
use Rattle.pc_crash.specs.Priced.{PricedNetwork, knees_in}
use Rattle.pc_check.specs.Draft.{ActRow, Part, Draft}
use Rattle.pc_check.specs.Known.{some_below}
use Rattle.pc_check.specs.Segments.{segment_in, stops_at_knee_in, stops_in}
use Rattle.pc_check.specs.Said.{flow_along, flow_at, spent_in, forward_by, backward_by, said}
use Rattle.pc_check.proofs.BelowLaws.{some_below-finds}
use Rattle.pc_check.proofs.GoodSegments.{Closes, flow_at-whole}
use Rattle.pc_cert.specs.Document.{flows_along}
use Rattle.pc_cert.proofs.ListedLaws.{length-listed}
use Rattle.pc_certify.proofs.RowLaws.{act_row, part_of, event_is, act_is, flow_is, beside_is}
use Rattle.pc_certify.specs.Rows.{SaySame}
use Rattle.pc_certify.proofs.SameLaws.{MoveSame, forward_by-same, backward_by-same, stops_in-same}

-- a segment that is read back states the same
pub says_same : (net : PricedNetwork) (seg : Segment) → SaySame net seg (segment_in net (part_of net seg))
says_same net seg = record {
  upper = refl;
  lower = refl;
  cost = refl;
  slope = refl;
  time = λ e lt. ap (λ row. row.time) (event_is net seg e lt);
  moves = λ e lt. ap (λ row. row.moves) (event_is net seg e lt);
  duration = λ a lt. ap (λ (row : ActRow). row.duration) (act_is net seg a lt);
  flow = λ a k lt within. ap (λ (row : ActRow). slice_index row.flows k) (act_is net seg a lt) ∙ flow_is net seg a k within;
  beside = λ a lt. ap (λ (row : ActRow). slice_index row.flows ((knees_in net).count a)) (act_is net seg a lt) ∙ beside_is net seg a;
}

pub moves_same : (net : PricedNetwork) (seg : Segment) → MoveSame net seg (segment_in net (part_of net seg))
moves_same net seg = let h = says_same net seg in record { upper = refl; lower = refl; time = h.time; moves = h.moves }

-- an activity that stops
stops_at_crash : (net : PricedNetwork) (seg : Segment) (a : ℕ) → StopsAtCrash net.network net.terms seg a → stops_in net seg a ≡ true
stops_at_crash net seg a h = or_left _ _ (and_from _ _ h.forward (eq-eqb _ _ h.at_crash))

stops_at_knee : (net : PricedNetwork) (seg : Segment) (a k : ℕ) → k < (knees_in net).count a → stops_at_knee_in net seg a k ≡ true → stops_in net seg a ≡ true
stops_at_knee net seg a k within h = or_right _ _ (some_below-finds ((knees_in net).count a) (stops_at_knee_in net seg a) k within h)

falls_to_knee : (net : PricedNetwork) (seg : Segment) (a k : ℕ) → FallsToKnee net.network (knees_in net) seg a k → stops_at_knee_in net seg a k ≡ true
falls_to_knee net seg a k h = and_from _ _ (eq-eqb _ _ h.at_knee) (or_left _ _ (and_from _ _ h.forward (lt-ltb _ _ h.above)))

rises_to_knee : (net : PricedNetwork) (seg : Segment) (a k : ℕ) → RisesToKnee net.network (knees_in net) seg a k → stops_at_knee_in net seg a k ≡ true
rises_to_knee net seg a k h = and_from _ _ (eq-eqb _ _ h.at_knee) (or_right _ _ (and_from _ _ h.backward (lt-ltb _ _ h.below)))

some_stops : (net : PricedNetwork) (seg : Segment) → StopsAtLower net.network net.terms (knees_in net) seg → (a : ℕ) × (a < length net.network.arcs) × (stops_in net seg a ≡ true)
some_stops net seg (a, lt, inl at_crash) = (a, lt, stops_at_crash net seg a at_crash)
some_stops net seg (a, lt, inr (k, within, inl falls)) = (a, lt, stops_at_knee net seg a k within (falls_to_knee net seg a k falls))
some_stops net seg (a, lt, inr (k, within, inr rises)) = (a, lt, stops_at_knee net seg a k within (rises_to_knee net seg a k rises))

gained : (f b s : ℕ) → pos f -ℤ pos b ≡ pos s → f ≡ b + s
gained f b s h = omega (arith, ints)

module _ (net : PricedNetwork) (priced : IsPriced net.network net.terms (knees_in net)) (seg : Segment) where
  all_acts : length (part_of net seg).acts ≡ length net.network.arcs
  all_acts = length-listed (length net.network.arcs) (act_row net seg)

  same_flow : (a : ℕ) → a < length net.network.arcs → flow_along net (part_of net seg) a ≡ whole_flow (knees_in net) seg.flow seg.beside a
  same_flow a lt =
      ap (λ (row : ActRow). sum_to ((knees_in net).count a) (slice_index row.flows) + slice_index row.flows ((knees_in net).count a)) (act_is net seg a lt)
      ∙ ap (λ n. n + slice_index (flows_along net seg a) ((knees_in net).count a))
      (sum_to-same ((knees_in net).count a) (slice_index (flows_along net seg a)) (seg.flow a) (λ k within. flow_is net seg a k within))
      ∙ ap (λ n. sum_to ((knees_in net).count a) (seg.flow a) + n) (beside_is net seg a)

  same_flow_at : (event_of : ℕ → ℕ) (e : ℕ) → e < net.network.events →
      flow_at net (part_of net seg) event_of e ≡ at_event (length net.network.arcs) event_of (whole_flow (knees_in net) seg.flow seg.beside) e
  same_flow_at event_of e lt =
      flow_at-whole net (part_of net seg) event_of e all_acts lt
      ∙ sum_to-same (length net.network.arcs) (λ a. if event_of a == e then flow_along net (part_of net seg) a else 0)
      (λ a. if event_of a == e then whole_flow (knees_in net) seg.flow seg.beside a else 0) (λ a l. ap (λ n. if event_of a == e then n else 0) (same_flow a l))

  same_cost : spent_in net (part_of net seg) ≡ sum_to (length net.terms) (λ a. activity_cost net.terms (knees_in net) a (seg.duration a))
  same_cost =
      ap (λ m. sum_to m (λ a. activity_cost net.terms (knees_in net) a ((segment_in net (part_of net seg)).duration a))) all_acts
      ∙ sum_to-same (length net.network.arcs)
      (λ a. activity_cost net.terms (knees_in net) a ((segment_in net (part_of net seg)).duration a))
      (λ a. activity_cost net.terms (knees_in net) a (seg.duration a))
      (λ a lt. ap (activity_cost net.terms (knees_in net) a) ((says_same net seg).duration a lt))
      ∙ ap (λ m. sum_to m (λ a. activity_cost net.terms (knees_in net) a (seg.duration a))) (sym priced.terms_fit.one_each)

  same_forward : sum_to (length (part_of net seg).acts) (forward_by net (segment_in net (part_of net seg))) ≡ forward_rises net.network (knees_in net) seg
  same_forward =
      ap (λ m. sum_to m (forward_by net (segment_in net (part_of net seg)))) all_acts
      ∙ sum_to-same (length net.network.arcs) (forward_by net (segment_in net (part_of net seg))) (forward_by net seg)
      (λ a lt. forward_by-same net priced.range seg (segment_in net (part_of net seg)) (moves_same net seg) a lt)

  same_backward : sum_to (length (part_of net seg).acts) (backward_by net (segment_in net (part_of net seg))) ≡ backward_rises net.network (knees_in net) seg
  same_backward =
      ap (λ m. sum_to m (backward_by net (segment_in net (part_of net seg)))) all_acts
      ∙ sum_to-same (length net.network.arcs) (backward_by net (segment_in net (part_of net seg))) (backward_by net seg)
      (λ a lt. backward_by-same net priced.range seg (segment_in net (part_of net seg)) (moves_same net seg) a lt)

  same_stops : StopsAtLower net.network net.terms (knees_in net) seg → some_below (length (part_of net seg).acts) (stops_in net (segment_in net (part_of net seg))) ≡ true
  same_stops h =
      let found = some_stops net seg h in
      some_below-finds (length (part_of net seg).acts) (stops_in net (segment_in net (part_of net seg))) (found.0) (omega (arith, found.1, all_acts))
      (stops_in-same net priced.range seg (segment_in net (part_of net seg)) (moves_same net seg) (found.0) (found.1) ∙ found.2)

  -- after all rows of a complete segment
  pub ends : (draft : Draft) → draft.part ≡ part_of net seg → IsSegment net.network net.terms (knees_in net) seg → Closes net (said net draft)
  ends draft is whole = subst (λ (part : Part). Closes net (said net (record draft { part = part }))) (sym is) (record {
    conserved = λ e lt not_start not_end. same_flow_at (to_of net.network.arcs) e lt ∙ whole.right.conserved e lt not_start not_end ∙ sym (same_flow_at (from_of net.network.arcs) e lt);
    leaves = same_flow_at (from_of net.network.arcs) net.network.start priced.range.start_in ∙ whole.right.leaves;
    costs = same_cost ∙ whole.right.costs;
    cut = λ below. gained _ _ _ ((λ i. pos (same_forward i) -ℤ pos (same_backward i)) ∙ whole.cut below);
    stops = λ below. same_stops (whole.stops below);
  })
