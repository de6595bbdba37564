-- If no line fails, the lines give segments that join, line by line.
use Rattle.std.proofs.Common.{◌≡◌, ℕ, ◌+◌, ◌<◌, ◌≤◌, Bool, true, false, List, [], ◌∷◌, ◌++◌, length, map, ◌⊎◌, inl, inr, Option, Some, None, refl, sym, ap, subst, ◌∙◌, arith, length-append}
use Rattle.std.proofs.lemmas.Bool.{eqb-true, eq-eqb, ltb-true, cases_eq, and_parts}
use Rattle.std.proofs.lemmas.List.{map-append}
use Rattle.std.proofs.lemmas.Option.{cond_some, none-some}
use Rattle.std.proofs.Math.ListN.{get_or-append}
use Rattle.std.proofs.Math.Seq.{get_or-append_seam}
use Rattle.std.specs.Prelude.{◌==◌, fold}
use Rattle.pc_model.specs.Walk.{IsSumOfWalk}
use Rattle.pc_model.specs.Schedule.{normal_of, normals}
use Rattle.pc_model.specs.Cost.{IsPriced}
use Rattle.pc_laws.specs.Segment.{IsSegment}
use Rattle.pc_laws.specs.Cover.{IsFront, IsCovering}
use Rattle.pc_laws.proofs.Segments.Covering.{front_begins, front_grows, begins_longest, covers_shortest, read_right}
use Rattle.pc_crash.specs.Priced.{PricedNetwork, knees_in}
use Rattle.pc_cert.specs.Grammar.{next}
use Rattle.pc_cert.specs.Text.{ran}
use Rattle.pc_text.proofs.FieldLemmas.{bind_some}
use Rattle.pc_cert.specs.declared.line.CertLine.{CertLine}
use Rattle.pc_cert.specs.declared.line.CertLine.TheVariants.{Head, Normal, Step, Crash, Segment as SegmentLine, Event, Act, Close, End}
use Rattle.pc_cert.specs.declared.place.Shape.{Shape}
use Rattle.pc_cert.specs.declared.place.Place.{Place}
use Rattle.pc_cert.specs.declared.place.Place.TheVariants.{Start, AfterHead, NormalWalk, CrashWalk, InSegment, Between, Ended}
use Rattle.pc_check.specs.declared.checker.Fail.{Fail}
use Rattle.pc_check.specs.inside.Bounds.{IsShaped}
use Rattle.pc_check.specs.Draft.{Part, Draft, EventRow, ActRow, empty_draft, event_at, act_at, with_line, draft_of}
use Rattle.pc_check.specs.Failures.{reason_at, or_later, failure_after}
use Rattle.pc_check.specs.Certified.{segments_of}
use Rattle.pc_check.specs.Certified.{AreCertified, AreCurve}
use Rattle.pc_check.specs.Said.{said}
use Rattle.pc_check.proofs.ReasonLaws.{holds_first}
use Rattle.pc_check.proofs.BoundLaws.{head_passes, first_walk, first_ends, later_ends}
use Rattle.pc_check.proofs.WalkLaws.{normal_walk, crash_walk}
use Rattle.pc_check.specs.Segments.{segment_in}
use Rattle.pc_check.proofs.GoodRows.{IsRightEvent, IsRightAct, right_event, right_act}
use Rattle.pc_check.proofs.Drafts.{begun_part, with_step, with_event, with_act, outline}
use Rattle.pc_check.proofs.GoodSegments.{HasOrderedEnds, HasRightRows, IsWhole, whole_segment}

-- the segments before the present one: there are none, and the normal walk has its upper end as its sum, or they come down
-- to it
record IsFirstPart (net : PricedNetwork) (draft : Draft) : Type 0 where
  none : draft.segments ≡ []
  walk : IsSumOfWalk net.network.arcs (normals net.terms) net.network.start net.network.end draft.part.upper

record IsLaterPart (net : PricedNetwork) (draft : Draft) : Type 0 where
  some : 0 < length draft.segments
  high : ℕ
  front : IsFront net.network net.terms (knees_in net) (map (segment_in net) draft.segments) high draft.part.upper
  below : draft.part.upper < high
  long : draft.part.lower < draft.part.upper

-- in a segment
record IsInGood (net : PricedNetwork) (events activities : ℕ) (draft : Draft) : Type 0 where
  events_come : length draft.part.events + events ≡ net.network.events
  acts_come : length draft.part.acts + activities ≡ length net.network.arcs
  events_first : 0 < events → length draft.part.acts ≡ 0
  rows : HasRightRows net (length draft.segments == 0) draft.part
  before : IsFirstPart net draft ⊎ IsLaterPart net draft

-- after a segment
record IsBehindGood (net : PricedNetwork) (draft : Draft) : Type 0 where
  some : 0 < length draft.segments
  high : ℕ
  front : IsFront net.network net.terms (knees_in net) (map (segment_in net) draft.segments) high draft.part.lower
  top : draft.part.upper ≤ high

-- at the end
record IsAllGood (net : PricedNetwork) (draft : Draft) : Type 0 where
  high : ℕ
  covering : IsCovering net.network net.terms (knees_in net) (map (segment_in net) draft.segments) high draft.part.lower

abbrev IsGood : PricedNetwork → Place → Draft → Type 0
IsGood net Start draft = draft.segments ≡ []
IsGood net (AfterHead shape) draft = IsShaped net.network.events (length net.network.arcs) shape × (draft.segments ≡ [])
IsGood net (NormalWalk shape steps) draft = IsShaped net.network.events (length net.network.arcs) shape × (draft.segments ≡ [])
IsGood net (CrashWalk shape steps) draft = IsShaped net.network.events (length net.network.arcs) shape × (draft.segments ≡ [])
IsGood net (InSegment shape events activities) draft = IsShaped net.network.events (length net.network.arcs) shape × IsInGood net events activities draft
IsGood net (Between shape) draft = IsShaped net.network.events (length net.network.arcs) shape × IsBehindGood net draft
IsGood net Ended draft = IsAllGood net draft

-- what is assumed of the network
record IsKnown (net : PricedNetwork) : Type 0 where
  priced : IsPriced net.network net.terms (knees_in net)
  named : length net.activities ≡ length net.network.arcs

carry : (net : PricedNetwork) (draft : Draft) {place behind : Place} → IsGood net place draft → Some place ≡ Some behind → IsGood net behind draft
carry net draft {place} {behind} h same = let at : place ≡ behind = cc in subst (λ p. IsGood net p draft) at h

pub segments_step : (draft : Draft) (code : List ℕ) (b : Bool) → (with_step draft code b).segments ≡ draft.segments
segments_step draft code true = refl
segments_step draft code false = refl

-- a segment begins
begun_rows : (net : PricedNetwork) (first : Bool) (upper lower cost slope : ℕ) → HasOrderedEnds (begun_part upper lower cost slope) → HasRightRows net first (begun_part upper lower cost slope)
begun_rows net first upper lower cost slope ends = record { ends = ends; events = λ e lt. absurd (omega arith); acts = λ a lt. absurd (omega arith) }

begun : (net : PricedNetwork) (shape : Shape) (draft : Draft) (upper lower cost slope : ℕ) →
    IsShaped net.network.events (length net.network.arcs) shape → HasOrderedEnds (begun_part upper lower cost slope)
    → (IsFirstPart net (record draft { part = begun_part upper lower cost slope }) ⊎ IsLaterPart net (record draft { part = begun_part upper lower cost slope }))
    → IsInGood net shape.events shape.activities (record draft { part = begun_part upper lower cost slope })
begun net shape draft upper lower cost slope shaped ends before = record {
  events_come = omega (arith, shaped.events);
  acts_come = omega (arith, shaped.activities);
  events_first = λ some. refl;
  rows = begun_rows net (length draft.segments == 0) upper lower cost slope ends;
  before = before;
}

first_in : (net : PricedNetwork) (draft : Draft) (part : Part) → part.upper ≡ draft.part.upper → part.lower ≡ draft.part.lower →
    (IsFirstPart net draft ⊎ IsLaterPart net draft) →
    (IsFirstPart net (record draft { part = part }) ⊎ IsLaterPart net (record draft { part = part }))
first_in net draft part upper lower (inl h) =
    inl (record {
      none = h.none;
      walk = subst (λ u. IsSumOfWalk net.network.arcs (normals net.terms) net.network.start net.network.end u)
          (sym upper) h.walk;
    })
first_in net draft part upper lower (inr h) = inr (record {
  some = h.some;
  high = h.high;
  front = subst (λ u. IsFront net.network net.terms (knees_in net) (map (segment_in net) draft.segments) h.high u) (sym upper) h.front;
  below = omega (arith, h.below, upper);
  long = omega (arith, h.long, upper, lower);
})

-- an event comes
event_comes : (net : PricedNetwork) (first : Bool) (part : Part) (row : EventRow) → length part.acts ≡ 0 → HasRightRows net first part →
    IsRightEvent net.network part.upper part.lower (length part.events) row → HasRightRows net first (with_event part row)
event_comes net first part row none rows right = record {
  ends = record { ordered = rows.ends.ordered; flat = rows.ends.flat };
  events = λ e lt. elim (cases_eq e (length part.events)) [
    | inl same ↦ subst (λ i. IsRightEvent net.network part.upper part.lower i (event_at (part.events ++ row ∷ []) i)) (sym same)
        (subst (λ r. IsRightEvent net.network part.upper part.lower (length part.events) r) (sym (get_or-append_seam part.events row [] (record { code = []; time = 0; moves = false }))) right)
    | inr other ↦
        let before : e < length part.events = omega (arith, lt, other, length-append part.events (row ∷ [])) in
        subst (λ r. IsRightEvent net.network part.upper part.lower e r) (sym (get_or-append part.events (row ∷ []) (record { code = []; time = 0; moves = false }) e before)) (rows.events e before)
  ];
  acts = λ a lt. absurd (omega (arith, lt, none));
}

-- an activity comes
act_comes : (net : PricedNetwork) (first : Bool) (part : Part) (row : ActRow) → HasRightRows net first part →
    IsRightAct net first (outline part) (length part.acts) row → HasRightRows net first (with_act part row)
act_comes net first part row rows right = record {
  ends = record { ordered = rows.ends.ordered; flat = rows.ends.flat };
  events = rows.events;
  acts = λ a lt. elim (cases_eq a (length part.acts)) [
    | inl same ↦ subst (λ i. IsRightAct net first (outline part) i (act_at (part.acts ++ row ∷ []) i)) (sym same)
        (subst (λ r. IsRightAct net first (outline part) (length part.acts) r) (sym (get_or-append_seam part.acts row [] (record { code = []; duration = 0; flows = [] }))) right)
    | inr other ↦
        let before : a < length part.acts = omega (arith, lt, other, length-append part.acts (row ∷ [])) in
        subst (λ r. IsRightAct net first (outline part) a r) (sym (get_or-append part.acts (row ∷ []) (record { code = []; duration = 0; flows = [] }) a before)) (rows.acts a before)
  ];
}

-- a segment ends
front_after : (net : PricedNetwork) (draft : Draft) → IsKnown net → HasRightRows net (length draft.segments == 0) draft.part →
    IsWhole net draft.part → IsSegment net.network net.terms (knees_in net) (segment_in net draft.part) →
    (IsFirstPart net draft ⊎ IsLaterPart net draft) → IsBehindGood net (record draft { segments = draft.segments ++ draft.part ∷ [] })
front_after net draft known rows whole segment (inl h) =
    let normal : (a : ℕ) → a < length net.network.arcs →
    (segment_in net draft.part).duration a
    ≡ normal_of net.terms a = λ a lt. (rows.acts a (omega (arith, lt, whole.all_acts))).normal
    (eq-eqb (length draft.segments) 0 (ap length h.none)) in
    let front = front_begins net.network net.terms (knees_in net) (segment_in net draft.part) segment normal h.walk in
    record {
      some = omega (arith, length-append draft.segments (draft.part ∷ []));
      high = draft.part.upper;
      front = subst (λ ps. IsFront net.network net.terms (knees_in net) (map (segment_in net) (ps ++ draft.part ∷ [])) draft.part.upper draft.part.lower) (sym h.none) front;
      top = omega arith;
    }
front_after net draft known rows whole segment (inr h) =
    let front = front_grows net.network net.terms (knees_in net) (map (segment_in net) draft.segments) (segment_in net draft.part) h.high draft.part.upper h.front h.below segment refl h.long in
    record {
      some = omega (arith, length-append draft.segments (draft.part ∷ []));
      high = h.high;
      front = subst (λ ss. IsFront net.network net.terms (knees_in net) ss h.high draft.part.lower) (sym (map-append (segment_in net) draft.segments (draft.part ∷ []))) front;
      top = omega (arith, h.below);
    }

-- ---- one line

good_line : (net : PricedNetwork) (place : Place) (line : CertLine) (behind : Place) (draft : Draft) → IsKnown net →
    IsGood net place draft → next place line ≡ Some behind → reason_at net draft line ≡ None → IsGood net behind (with_line draft line)
good_line net Start (Head version project events activities) behind draft known h goes passes =
    let is = head_passes net (said net draft) version project events activities passes in
    carry net draft (record { events = is.0; activities = is.1 }, h) goes
good_line net (AfterHead shape) Normal behind draft known h goes passes = carry net draft h goes
good_line net (NormalWalk shape steps) (Step code) behind draft known h goes passes =
    carry net (with_step draft code draft.crash_walk_started) (h.0, segments_step draft code draft.crash_walk_started ∙ h.1) (ap Some ((cond_some _ _ _ goes).1))
good_line net (NormalWalk shape steps) Crash behind draft known h goes passes = carry net (record draft { crash_walk_started = true }) h goes
good_line net (CrashWalk shape steps) (Step code) behind draft known h goes passes =
    carry net (with_step draft code draft.crash_walk_started) (h.0, segments_step draft code draft.crash_walk_started ∙ h.1) (ap Some ((cond_some _ _ _ goes).1))
good_line net (CrashWalk shape steps) (SegmentLine upper lower cost slope) behind draft known h goes passes =
    let none : length draft.segments ≡ 0 = ap length (h.1) in
    let walk = normal_walk net draft.normal upper known.named (first_walk net (said net draft) upper lower cost slope none passes) in
    let ends = first_ends net (said net draft) upper lower cost slope none passes in
    carry net (record draft { part = begun_part upper lower cost slope }) (
      h.0,
      begun net shape draft upper lower cost slope (h.0) (record { ordered = ends.0; flat = ends.1 })
          (inl (record { none = h.1; walk = walk })),
    ) goes
good_line net (Between shape) (SegmentLine upper lower cost slope) behind draft known h goes passes =
    let ends = later_ends net (said net draft) upper lower cost slope h.1.some passes in
    let joins : upper ≡ draft.part.lower = ends.0 in
    let long : draft.part.lower < draft.part.upper = ends.1 in
    let below : lower < upper = ends.2 in
    carry net (record draft { part = begun_part upper lower cost slope }) (
      h.0,
      begun net shape draft upper lower cost slope (h.0) (record { ordered = omega (arith, below); flat = λ same. absurd (omega (arith, below, same)) }) (inr (record {
        some = h.1.some;
        high = h.1.high;
        front = subst (λ u. IsFront net.network net.terms (knees_in net) (map (segment_in net) draft.segments) h.1.high u) (sym joins) h.1.front;
        below = omega (arith, joins, long, h.1.top);
        long = below;
      })),
    ) goes
good_line net (Between shape) End behind draft known h goes passes =
    let walk = crash_walk net draft.crash draft.part.lower known.named ((holds_first _ _ _ passes).0) in
    carry net draft (record { high = h.1.high; covering = record { front = h.1.front; crash_walk = walk } }) goes
good_line net (InSegment shape events activities) (Event code time moves) behind draft known h goes passes =
    let step = cond_some _ _ _ goes in
    let some : 0 < events = ltb-true 0 events (step.0) in
    let none = h.1.events_first some in
    let row : EventRow = record { code = code; time = time; moves = moves } in
    carry net (record draft { part = with_event draft.part row }) (
      h.0,
      record {
        events_come = omega (arith, h.1.events_come, some, length-append draft.part.events (row ∷ []));
        acts_come = h.1.acts_come;
        events_first = λ more. none;
        rows = event_comes net (length draft.segments == 0) draft.part row none h.1.rows (right_event net (said net draft) code time moves passes);
        before = first_in net draft (with_event draft.part row) refl refl h.1.before;
      },
    ) (ap Some (step.1))
good_line net (InSegment shape events activities) (Act code duration flows) behind draft known h goes passes =
    let step = cond_some _ _ _ goes in
    let none : events ≡ 0 = eqb-true events 0 ((and_parts _ _ (step.0)).0) in
    let some : 0 < activities = ltb-true 0 activities ((and_parts _ _ ((and_parts _ _ (step.0)).1)).0) in
    let row : ActRow = record { code = code; duration = duration; flows = flows } in
    carry net (record draft { part = with_act draft.part row }) (
      h.0,
      record {
        events_come = h.1.events_come;
        acts_come = omega (arith, h.1.acts_come, some, length-append draft.part.acts (row ∷ []));
        events_first = λ more. absurd (omega (arith, none, more));
        rows = act_comes net (length draft.segments == 0) draft.part row h.1.rows (right_act net (said net draft) code duration flows passes);
        before = first_in net draft (with_act draft.part row) refl refl h.1.before;
      },
    ) (ap Some (step.1))
good_line net (InSegment shape events activities) Close behind draft known h goes passes =
    let step = cond_some _ _ _ goes in
    let no_events : events ≡ 0 = eqb-true events 0 ((and_parts _ _ (step.0)).0) in
    let no_acts : activities ≡ 0 = eqb-true activities 0 ((and_parts _ _ (step.0)).1) in
    let whole : IsWhole net draft.part = record { all_events = omega (arith, h.1.events_come, no_events); all_acts = omega (arith, h.1.acts_come, no_acts) } in
    let segment = whole_segment net (length draft.segments == 0) draft known.priced h.1.rows whole passes in
    carry net (record draft { segments = draft.segments ++ draft.part ∷ [] }) (h.0, front_after net draft known h.1.rows whole segment h.1.before) (ap Some (step.1))
good_line net place line behind draft known h goes passes = absurd (none-some behind goes)

-- ---- all lines

pub none_parts : (number : ℕ) (reason : Option ℕ) (later : Option Fail) → or_later number reason later ≡ None → (reason ≡ None) × (later ≡ None)
none_parts number None later h = (refl, h)
none_parts number (Some reason) later h = absurd cc

good_lines : (net : PricedNetwork) (place : Place) (lines : List CertLine) (behind : Place) (draft : Draft) (number : ℕ) → IsKnown net →
    IsGood net place draft → ran place lines ≡ Some behind → failure_after net draft number lines ≡ None →
    IsGood net behind (fold with_line draft lines)
good_lines net place [] behind draft number known h goes passes = carry net draft h goes
good_lines net place (line ∷ lines) behind draft number known h goes passes =
    let step = bind_some (next place line) (λ p. ran p lines) behind goes in
    let parts = none_parts number (reason_at net draft line) (failure_after net (with_line draft line) (number + 1) lines) passes in
    good_lines net (step.0) lines behind (with_line draft line) (number + 1) known (good_line net place line (step.0) draft known h (step.1) (parts.0)) (step.2) (parts.1)

-- lines of a complete certificate none of which fails give segments that cover the range
covering_of : (net : PricedNetwork) (lines : List CertLine) → IsKnown net → AreCertified net lines → IsAllGood net (draft_of lines)
covering_of net lines known certified = good_lines net Start lines Ended empty_draft 1 known refl certified.whole certified.none

-- and these are the complete curve
pub curve_of : (net : PricedNetwork) (lines : List CertLine) → IsPriced net.network net.terms (knees_in net) →
    length net.activities ≡ length net.network.arcs → AreCertified net lines → AreCurve net (segments_of net lines)
curve_of net lines priced named certified =
    let good = covering_of net lines (record { priced = priced; named = named }) certified in
    let front = good.covering.front in
    record {
      high = good.high;
      low = (draft_of lines).part.lower;
      covering = good.covering;
      longest = begins_longest net.network net.terms (knees_in net) priced (segments_of net lines) good.high (draft_of lines).part.lower front;
      shortest = covers_shortest net.network net.terms (knees_in net) (segments_of net lines) good.high (draft_of lines).part.lower priced good.covering;
      read = λ limit above below. read_right net.network net.terms (knees_in net) priced (segments_of net lines) good.high (draft_of lines).part.lower front limit above below;
    }
