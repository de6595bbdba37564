-- The lines of a certificate are bounded by the upper end of its own first segment.
use Rattle.std.proofs.Common.{◌≡◌, ℕ, suc, ◌+◌, ◌*◌, ◌<◌, ◌≤◌, max, List, [], ◌∷◌, length, Some, None, refl, ap, subst, ◌∙◌, arith, length-append, ◌⊎◌, inl, inr}
use Rattle.std.proofs.Math.Nat.{mul-le-mul_right, le-max_left, le-max_right}
use Rattle.std.proofs.lemmas.Bool.{ltb-true, ltb-false, cases_Bool, and_parts}
use Rattle.std.proofs.lemmas.Option.{cond_some, none-some}
use Rattle.std.specs.Prelude.{nat_lt, if◌then◌else◌}
use Rattle.pc_crash.specs.Priced.{PricedNetwork}
use Rattle.pc_cert.specs.Grammar.{next}
use Rattle.pc_cert.specs.Text.{ran}
use Rattle.pc_cert.specs.declared.place.Place.TheVariants.{Start, AfterHead, NormalWalk, CrashWalk, InSegment, Between, Ended}
use Rattle.pc_text.proofs.FieldLemmas.{bind_some}
use Rattle.pc_cert.specs.declared.line.CertLine.{CertLine}
use Rattle.pc_cert.specs.declared.line.CertLine.TheVariants.{Head, Normal, Step, Crash, Segment, Event, Act, Close, End}
use Rattle.pc_cert.specs.declared.place.Place.{Place}
use Rattle.pc_check.specs.inside.Bounds.{IsShaped}
use Rattle.pc_check.specs.Draft.{Part, Draft, empty_draft, with_line}
use Rattle.pc_check.specs.Failures.{reason_at, failure_after, failure_of}
use Rattle.pc_check.specs.Said.{said}
use Rattle.pc_check.specs.OwnLines.{lines_before, first_upper_in_lines, most_segment_lines, AreFew}
use Rattle.pc_check.proofs.BoundLaws.{head_passes, first_ends, later_ends}
use Rattle.pc_check.proofs.GoodLines.{none_parts, segments_step}

-- ---- after the first SEGMENT line

-- how many segments may come after one with these ends
abbrev segments_behind : ℕ → ℕ → ℕ
segments_behind upper lower = if nat_lt lower upper then lower else 0

segments_below : (upper lower : ℕ) → lower < upper → segments_behind upper lower ≡ lower
segments_below upper lower below = elim (cases_Bool (nat_lt lower upper)) [
  | inl is ↦ rw is refl
  | inr other ↦ absurd (omega (arith, ltb-false lower upper other, below))
]

-- there is one segment and these, and they are at most as many as the upper end is long, or one
segments_most : (upper lower : ℕ) → lower ≤ upper → segments_behind upper lower + 1 ≤ max upper 1
segments_most upper lower ordered = elim (cases_Bool (nat_lt lower upper)) [
  | inl is ↦ rw is (omega (arith, ltb-true lower upper is, le-max_left upper 1))
  | inr other ↦ rw other (omega (arith, le-max_right upper 1))
]

-- how many lines may come from a place after the first SEGMENT line, with this many lines per segment
abbrev lines_behind : ℕ → Place → Part → ℕ
lines_behind unit (InSegment shape events activities) part = events + (activities + (1 + (segments_behind part.upper part.lower * unit + 1)))
lines_behind unit (Between shape) part = segments_behind part.upper part.lower * unit + 1
lines_behind unit other part = 0

-- the place is after the first SEGMENT line
abbrev IsBehind : ℕ → ℕ → Place → Draft → Type 0
IsBehind n m (InSegment shape events activities) draft = IsShaped n m shape
IsBehind n m (Between shape) draft = IsShaped n m shape × (0 < length draft.segments)
IsBehind n m Ended draft = Unit {0}
IsBehind n m other draft = ⊥

-- what holds after a line
record Goes (n m : ℕ) (place behind : Place) (old new : Draft) : Type 0 where
  at : IsBehind n m behind new
  fewer : lines_behind (n + m + 2) behind new.part < lines_behind (n + m + 2) place old.part

to : (n m : ℕ) {place reached behind : Place} {old new : Draft} → Goes n m place reached old new → Some reached ≡ Some behind → Goes n m place behind old new
to n m {place} {reached} {behind} {old} {new} h same = let is : reached ≡ behind = cc in subst (λ p. Goes n m place p old new) is h

-- one line
goes_behind : (net : PricedNetwork) (place : Place) (line : CertLine) (behind : Place) (draft : Draft)
    → IsBehind net.network.events (length net.network.arcs) place draft → next place line ≡ Some behind → reason_at net draft line ≡ None
    → Goes net.network.events (length net.network.arcs) place behind draft (with_line draft line)
goes_behind net (InSegment shape events activities) (Event code time moves) behind draft h goes passes =
    let step = cond_some _ _ _ goes in
    let some : 0 < events = ltb-true 0 events (step.0) in
    to net.network.events (length net.network.arcs) (record { at = h; fewer = omega (arith, some) }) (ap Some (step.1))
goes_behind net (InSegment shape events activities) (Act code duration flows) behind draft h goes passes =
    let step = cond_some _ _ _ goes in
    let some : 0 < activities = ltb-true 0 activities ((and_parts _ _ ((and_parts _ _ (step.0)).1)).0) in
    to net.network.events (length net.network.arcs) (record { at = h; fewer = omega (arith, some) }) (ap Some (step.1))
goes_behind net (InSegment shape events activities) Close behind draft h goes passes =
    let step = cond_some _ _ _ goes in
    to net.network.events (length net.network.arcs) (record { at = (h, omega (arith, length-append draft.segments (draft.part ∷ []))); fewer = omega arith }) (ap Some (step.1))
goes_behind net (Between shape) (Segment upper lower cost slope) behind draft h goes passes =
    let n = net.network.events in
    let m = length net.network.arcs in
    let ends = later_ends net (said net draft) upper lower cost slope h.1 passes in
    let joins : upper ≡ draft.part.lower = ends.0 in
    let before : segments_behind draft.part.upper draft.part.lower ≡ draft.part.lower = segments_below draft.part.upper draft.part.lower ends.1 in
    let now : segments_behind upper lower ≡ lower = segments_below upper lower ends.2 in
    let more : segments_behind upper lower + 1 ≤ segments_behind draft.part.upper draft.part.lower = omega (arith, joins, before, now, ends.2) in
    to n m (record {
      at = h.0;
      fewer = omega (arith, h.0.events, h.0.activities, mul-le-mul_right (n + m + 2) more);
    }) goes
goes_behind net (Between shape) End behind draft h goes passes =
    to net.network.events (length net.network.arcs) (record { at = tt; fewer = omega arith }) goes
goes_behind net Start line behind draft h goes passes = absurd h
goes_behind net (AfterHead shape) line behind draft h goes passes = absurd h
goes_behind net (NormalWalk shape steps) line behind draft h goes passes = absurd h
goes_behind net (CrashWalk shape steps) line behind draft h goes passes = absurd h
goes_behind net place line behind draft h goes passes = absurd (none-some behind goes)

-- all lines
few_behind : (net : PricedNetwork) (place : Place) (lines : List CertLine) (behind : Place) (draft : Draft) (number : ℕ)
    → IsBehind net.network.events (length net.network.arcs) place draft → ran place lines ≡ Some behind → failure_after net draft number lines ≡ None
    → length lines ≤ lines_behind (net.network.events + length net.network.arcs + 2) place draft.part
few_behind net place [] behind draft number h goes passes = omega arith
few_behind net place (line ∷ lines) behind draft number h goes passes =
    let step = bind_some (next place line) (λ p. ran p lines) behind goes in
    let parts = none_parts number (reason_at net draft line) (failure_after net (with_line draft line) (number + 1) lines) passes in
    let gone = goes_behind net place line (step.0) draft h (step.1) (parts.0) in
    omega (arith, gone.fewer, few_behind net (step.0) lines behind (with_line draft line) (number + 1) gone.at (step.2) (parts.1))

-- ---- before it

-- how many lines of the header and the walks may come from a place on
abbrev before_left : ℕ → Place → ℕ
before_left n Start = 3 + (n + n)
before_left n (AfterHead shape) = 2 + (n + n)
before_left n (NormalWalk shape steps) = 1 + (steps + n)
before_left n (CrashWalk shape steps) = steps
before_left n other = 0

-- the place is before the first SEGMENT line
abbrev IsBefore : ℕ → ℕ → Place → Draft → Type 0
IsBefore n m Start draft = draft.segments ≡ []
IsBefore n m (AfterHead shape) draft = IsShaped n m shape × (draft.segments ≡ [])
IsBefore n m (NormalWalk shape steps) draft = IsShaped n m shape × (draft.segments ≡ [])
IsBefore n m (CrashWalk shape steps) draft = IsShaped n m shape × (draft.segments ≡ [])
IsBefore n m other draft = ⊥

-- lines from a place on are few
record AreFewFrom (n m : ℕ) (place : Place) (lines : List CertLine) : Type 0 where
  head : lines_before lines ≤ before_left n place
  all : length lines ≤ lines_before lines + (most_segment_lines n m (first_upper_in_lines lines) + 1)

-- one line of the header or of a walk
record Comes (n m : ℕ) (place behind : Place) (line : CertLine) (new : Draft) : Type 0 where
  at : IsBefore n m behind new
  fewer : before_left n behind < before_left n place
  counts : (lines : List CertLine) → lines_before (line ∷ lines) ≡ suc (lines_before lines)
  same : (lines : List CertLine) → first_upper_in_lines (line ∷ lines) ≡ first_upper_in_lines lines

arrives : (n m : ℕ) {place reached behind : Place} {line : CertLine} {new : Draft} → Comes n m place reached line new → Some reached ≡ Some behind → Comes n m place behind line new
arrives n m {place} {reached} {behind} {line} {new} h same = let is : reached ≡ behind = cc in subst (λ p. Comes n m place p line new) is h

one_more : (n m : ℕ) {place behind : Place} {line : CertLine} {new : Draft} (lines : List CertLine) → Comes n m place behind line new →
    AreFewFrom n m behind lines → AreFewFrom n m place (line ∷ lines)
one_more n m {place} {behind} {line} {new} lines h few = record {
  head = omega (arith, h.counts lines, h.fewer, few.head);
  all = omega (arith, h.counts lines, few.all, ap (most_segment_lines n m) (h.same lines));
}

-- the first SEGMENT line
record Begins (n m : ℕ) (behind : Place) (line : CertLine) (new : Draft) : Type 0 where
  upper : ℕ
  lower : ℕ
  ordered : lower ≤ upper
  none : (lines : List CertLine) → lines_before (line ∷ lines) ≡ 0
  first : (lines : List CertLine) → first_upper_in_lines (line ∷ lines) ≡ upper
  at : IsBehind n m behind new
  left : lines_behind (n + m + 2) behind new.part ≡ n + (m + (1 + (segments_behind upper lower * (n + m + 2) + 1)))

begins : (n m : ℕ) {reached behind : Place} {line : CertLine} {new : Draft} → Begins n m reached line new → Some reached ≡ Some behind → Begins n m behind line new
begins n m {reached} {behind} {line} {new} h same = let is : reached ≡ behind = cc in subst (λ p. Begins n m p line new) is h

-- a segment takes no more lines than it has, and those after it no more than are left
first_few : (n m : ℕ) (place : Place) {behind : Place} {line : CertLine} {new : Draft} (lines : List CertLine) →
    Begins n m behind line new → length lines ≤ lines_behind (n + m + 2) behind new.part → AreFewFrom n m place (line ∷ lines)
first_few n m place {behind} {line} {new} lines h few = record {
  head = omega (arith, h.none lines);
  all = omega (arith, h.none lines, few, h.left, ap (most_segment_lines n m) (h.first lines), mul-le-mul_right (n + m + 2) (segments_most h.upper h.lower h.ordered));
}

-- one line from a place before the first SEGMENT line
comes : (net : PricedNetwork) (place : Place) (line : CertLine) (behind : Place) (draft : Draft)
    → IsBefore net.network.events (length net.network.arcs) place draft → next place line ≡ Some behind → reason_at net draft line ≡ None
    → Comes net.network.events (length net.network.arcs) place behind line (with_line draft line) ⊎ Begins net.network.events (length net.network.arcs) behind line (with_line draft line)
comes net Start (Head version project events activities) behind draft h goes passes =
    let is = head_passes net (said net draft) version project events activities passes in
    inl (arrives net.network.events (length net.network.arcs)
    (record {
      at = (record { events = is.0; activities = is.1 }, h);
      fewer = omega arith;
      counts = λ lines. refl;
      same = λ lines. refl;
    }) goes)
comes net (AfterHead shape) Normal behind draft h goes passes =
    inl (arrives net.network.events (length net.network.arcs) (record { at = h; fewer = omega (arith, h.0.events); counts = λ lines. refl; same = λ lines. refl }) goes)
comes net (NormalWalk shape steps) (Step code) behind draft h goes passes =
    let step = cond_some _ _ _ goes in
    let some : 0 < steps = ltb-true 0 steps (step.0) in
    inl (arrives net.network.events (length net.network.arcs) (record {
      at = (h.0, segments_step draft code draft.crash_walk_started ∙ h.1);
      fewer = omega (arith, some);
      counts = λ lines. refl;
      same = λ lines. refl;
    }) (ap Some (step.1)))
comes net (NormalWalk shape steps) Crash behind draft h goes passes =
    inl (arrives net.network.events (length net.network.arcs) (record { at = h; fewer = omega (arith, h.0.events); counts = λ lines. refl; same = λ lines. refl }) goes)
comes net (CrashWalk shape steps) (Step code) behind draft h goes passes =
    let step = cond_some _ _ _ goes in
    let some : 0 < steps = ltb-true 0 steps (step.0) in
    inl (arrives net.network.events (length net.network.arcs) (record {
      at = (h.0, segments_step draft code draft.crash_walk_started ∙ h.1);
      fewer = omega (arith, some);
      counts = λ lines. refl;
      same = λ lines. refl;
    }) (ap Some (step.1)))
comes net (CrashWalk shape steps) (Segment upper lower cost slope) behind draft h goes passes =
    let ends = first_ends net (said net draft) upper lower cost slope (ap length (h.1)) passes in
    inr (begins net.network.events (length net.network.arcs) (record {
      upper = upper;
      lower = lower;
      ordered = ends.0;
      none = λ lines. refl;
      first = λ lines. refl;
      at = h.0;
      left = omega (arith, h.0.events, h.0.activities);
    }) goes)
comes net (InSegment shape events activities) line behind draft h goes passes = absurd h
comes net (Between shape) line behind draft h goes passes = absurd h
comes net Ended line behind draft h goes passes = absurd h
comes net place line behind draft h goes passes = absurd (none-some behind goes)

-- all lines
few_from : (net : PricedNetwork) (place : Place) (lines : List CertLine) (behind : Place) (draft : Draft) (number : ℕ)
    → IsBefore net.network.events (length net.network.arcs) place draft → ran place lines ≡ Some behind → failure_after net draft number lines ≡ None
    → AreFewFrom net.network.events (length net.network.arcs) place lines
few_from net place [] behind draft number h goes passes = record { head = omega arith; all = omega arith }
few_from net place (line ∷ lines) behind draft number h goes passes =
    let step = bind_some (next place line) (λ p. ran p lines) behind goes in
    let parts = none_parts number (reason_at net draft line) (failure_after net (with_line draft line) (number + 1) lines) passes in
    elim (comes net place line (step.0) draft h (step.1) (parts.0)) [
      | inl one ↦ one_more net.network.events (length net.network.arcs) lines one (few_from net (step.0) lines behind (with_line draft line) (number + 1) one.at (step.2) (parts.1))
      | inr first ↦ first_few net.network.events (length net.network.arcs) place lines first (few_behind net (step.0) lines behind (with_line draft line) (number + 1) first.at (step.2) (parts.1))
    ]

-- lines in an order that is allowed, none of which fails
pub are_few : (net : PricedNetwork) (place : Place) (lines : List CertLine) → ran Start lines ≡ Some place → failure_of net lines ≡ None → AreFew net.network.events (length net.network.arcs) lines
are_few net place lines led none =
    let few = few_from net Start lines place empty_draft 1 refl led none in
    record { head = few.head; all = few.all }
