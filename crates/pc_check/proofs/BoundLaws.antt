-- What a checker that has found no failure keeps to, line by line.
use Rattle.std.proofs.Common.{◌≡◌, ℕ, ◌+◌, ◌^◌, ◌<◌, ◌≤◌, Bool, true, false, ◌&&◌, ◌||◌, cond, List, [], ◌∷◌}
use Rattle.std.proofs.Common.{length, Option, Some, None, refl, sym, ap, subst, ◌∙◌, arith, length-append, inl, inr}
use Rattle.std.proofs.Math.Nat.{mul-le-mul_left, mul-le-mul_right}
use Rattle.std.proofs.lemmas.Bool.{eqb-true, eqb-false, eq-eqb, ne_eqb, ltb-true, and_parts, or_cases, not-true}
use Rattle.std.proofs.lemmas.Option.{cond_some, none-some}
use Rattle.std.specs.Prelude.{◌==◌, nat_lt}
use Rattle.pc_model.specs.declared.limits.TheConstants.{MAX_DURATION, MAX_EVENTS, MAX_ACTIVITIES}
use Rattle.pc_crash.specs.Priced.{PricedNetwork}
use Rattle.pc_cert.specs.Grammar.{next}
use Rattle.pc_cert.specs.declared.line.CertLine.{CertLine}
use Rattle.pc_cert.specs.declared.line.CertLine.TheVariants.{Head, Normal, Step, Crash, Segment, Event, Act, Close, End}
use Rattle.pc_cert.specs.declared.place.Shape.{Shape}
use Rattle.pc_cert.specs.declared.place.Place.{Place}
use Rattle.pc_cert.specs.declared.place.Place.TheVariants.{Start, AfterHead, NormalWalk, CrashWalk, InSegment, Between, Ended}
use Rattle.pc_check.specs.declared.kept.Kept.{Kept}
use Rattle.pc_check.specs.declared.walk.Reached.{Reached}
use Rattle.pc_check.specs.Walks.{is_through}
use Rattle.pc_check.specs.inside.Walks.{sum_of_reached}
use Rattle.pc_check.specs.Conditions.{conditions}
use Rattle.pc_check.specs.Failures.{first_failing}
use Rattle.pc_check.specs.Known.{Known}
use Rattle.pc_check.specs.inside.Kept.{known_by}
use Rattle.pc_check.specs.Bounds.{longest_walk, lines_below, lines_from, lines_of_all}
use Rattle.pc_check.specs.inside.Bounds.{lines_left, IsShaped, IsInNormal, IsInPart, IsAtPlace, IsBounded}
use Rattle.pc_check.specs.inside.Advances.{AddsToKept, moved_on}
use Rattle.pc_check.specs.inside.Additions.{MayBeAdded}
use Rattle.pc_check.specs.inside.Safe.{IsBegun}
use Rattle.pc_check.proofs.ReasonLaws.{holds_first}

-- ---- what the conditions say

when_first : (b : Bool) (x y : Bool) → b ≡ true → cond b x y ≡ true → x ≡ true
when_first true x y h e = e
when_first false x y h e = absurd cc

when_later : (b : Bool) (x y : Bool) → b ≡ false → cond b x y ≡ true → y ≡ true
when_later true x y h e = absurd cc
when_later false x y h e = e

ne_zero : (n : ℕ) → 0 < n → (n == 0) ≡ false
ne_zero n some = ne_eqb n 0 (λ same. absurd (omega arith))

pub head_passes : (net : PricedNetwork) (known : Known) (version : ℕ) (project : List ℕ) (events activities : ℕ) →
    first_failing (conditions net known (Head version project events activities)) ≡ None →
    (events ≡ net.network.events) × (activities ≡ length net.network.arcs)
head_passes net known version project events activities h =
    let all = (holds_first _ _ _ h).0 in
    let rest = and_parts _ _ ((and_parts _ _ ((and_parts _ _ all).1)).1) in
    (eqb-true _ _ (rest.0), eqb-true _ _ (rest.1))

through_sum : (net : PricedNetwork) (sum : ℕ) (at : Option Reached) → is_through net.network sum at ≡ true → sum_of_reached at ≡ sum
through_sum net sum None h = absurd cc
through_sum net sum (Some at) h = eqb-true _ _ ((and_parts _ _ h).1)

-- the normal walk comes through to the upper end of the first segment
pub first_walk : (net : PricedNetwork) (known : Known) (upper lower cost slope : ℕ) → known.segments ≡ 0 →
    first_failing (conditions net known (Segment upper lower cost slope)) ≡ None → is_through net.network upper known.normal ≡ true
first_walk net known upper lower cost slope none h = elim (or_cases _ _ ((holds_first _ _ _ h).0)) [
  | inl later ↦ absurd (eqb-false _ _ (not-true _ later) none)
  | inr through ↦ through
]

-- its lower end is not above its upper one, and where they are equal its slope is 0
pub first_ends : (net : PricedNetwork) (known : Known) (upper lower cost slope : ℕ) → known.segments ≡ 0 →
    first_failing (conditions net known (Segment upper lower cost slope)) ≡ None → (lower ≤ upper) × (upper ≡ lower → slope ≡ 0)
first_ends net known upper lower cost slope none h =
    let joined = (holds_first _ _ _ ((holds_first _ _ _ h).1)).0 in
    let ends : (nat_lt lower upper || (lower == upper && slope == 0)) ≡ true = when_first _ _ _ (eq-eqb _ _ none) joined in
    elim (or_cases _ _ ends) [
      | inl below ↦ (omega (arith, ltb-true lower upper below), λ same. absurd (omega (arith, ltb-true lower upper below, same)))
      | inr same ↦ (omega (arith, eqb-true lower upper ((and_parts _ _ same).0)), λ is. eqb-true slope 0 ((and_parts _ _ same).1))
    ]

-- a later segment joins the one before, which is not one of one length, and has its own lower end below
pub later_ends : (net : PricedNetwork) (known : Known) (upper lower cost slope : ℕ) → 0 < known.segments →
    first_failing (conditions net known (Segment upper lower cost slope)) ≡ None →
    (upper ≡ known.lower) × (known.lower < known.upper) × (lower < upper)
later_ends net known upper lower cost slope some h =
    let joined = (holds_first _ _ _ ((holds_first _ _ _ h).1)).0 in
    let ends : (upper == known.lower && (nat_lt known.lower known.upper && nat_lt lower upper)) ≡ true = when_later _ _ _ (ne_zero _ some) joined in
    let rest = and_parts _ _ ((and_parts _ _ ends).1) in
    (eqb-true upper known.lower ((and_parts _ _ ends).0), ltb-true known.lower known.upper (rest.0), ltb-true lower upper (rest.1))

-- the upper end of the first segment is the sum of the normal walk, and its lower end is not above it
first_passes : (net : PricedNetwork) (known : Known) (upper lower cost slope : ℕ) → known.segments ≡ 0 →
    first_failing (conditions net known (Segment upper lower cost slope)) ≡ None → (sum_of_reached known.normal ≡ upper) × (lower ≤ upper)
first_passes net known upper lower cost slope none h =
    (through_sum net upper known.normal (first_walk net known upper lower cost slope none h), (first_ends net known upper lower cost slope none h).0)

-- a later segment has its lower end below the lower end before it
later_passes : (net : PricedNetwork) (known : Known) (upper lower cost slope : ℕ) → 0 < known.segments → first_failing (conditions net known (Segment upper lower cost slope)) ≡ None →
    lower < known.lower
later_passes net known upper lower cost slope some h =
    let ends = later_ends net known upper lower cost slope some h in omega (arith, ends.0, ends.2)

act_passes : (net : PricedNetwork) (known : Known) (code : List ℕ) (duration : ℕ) (flows : List ℕ) →
    first_failing (conditions net known (Act code duration flows)) ≡ None → known.acts < length net.network.arcs
act_passes net known code duration flows h =
    ltb-true _ _ ((and_parts _ _ ((and_parts _ _ ((holds_first _ _ _ h).0)).0)).0)

event_passes : (net : PricedNetwork) (known : Known) (code : List ℕ) (time : ℕ) (moves : Bool) → first_failing (conditions net known (Event code time moves)) ≡ None → known.events < net.network.events
event_passes net known code time moves h = ltb-true _ _ ((and_parts _ _ ((holds_first _ _ _ h).0)).0)

-- ---- the place of the next line

carry : (n m : ℕ) {place behind : Place} {kept new : Kept} → IsAtPlace n m place kept → Some place ≡ Some behind → new ≡ kept → IsAtPlace n m behind new
carry n m {place} {behind} {kept} {new} h same is =
    let at : place ≡ behind = cc in
    subst (λ p. IsAtPlace n m p new) at (subst (λ k. IsAtPlace n m place k) (sym is) h)

-- a segment has begun
begun_part : (net : PricedNetwork) (shape : Shape) (upper lower cost slope : ℕ) (new : Kept) →
    IsShaped net.network.events (length net.network.arcs) shape → lower ≤ longest_walk net.network.events →
    IsBegun upper lower cost slope new.tally → IsInPart net.network.events (length net.network.arcs) shape.events shape.activities new
begun_part net shape upper lower cost slope new shaped low begun = record {
  low = omega (arith, low, begun.lower);
  events_come = omega (arith, shaped.events, ap length begun.times);
  acts_come = omega (arith, shaped.activities, begun.acts);
  events_first = λ more. begun.acts;
}

less : (n m : ℕ) {place behind : Place} (new : Kept) {lines : ℕ} → Some place ≡ Some behind → lines_from n m place new.tally.lower < lines → lines_from n m behind new.tally.lower < lines
less n m {place} {behind} new {lines} same h =
    let at : place ≡ behind = cc in
    subst (λ p. lines_from n m p new.tally.lower < lines) at h

-- the place and the count of lines do not matter
moved : (n m : ℕ) (kept : Kept) (to : Place) (count : ℕ) (place : Place) → IsAtPlace n m place kept → IsAtPlace n m place (record kept { place = to; lines = count })
moved n m kept to count Start h = record { normal = h.normal; none = h.none; short = h.short; nothing = h.nothing }
moved n m kept to count (AfterHead shape) h = (h.0, record { normal = h.1.normal; none = h.1.none; short = h.1.short; nothing = h.1.nothing })
moved n m kept to count (NormalWalk shape steps) h = (h.0, record { normal = h.1.normal; none = h.1.none; short = h.1.short; nothing = h.1.nothing })
moved n m kept to count (CrashWalk shape steps) h = (h.0, record { normal = h.1.normal; none = h.1.none; whole = h.1.whole; short = h.1.short })
moved n m kept to count (InSegment shape events activities) h = (h.0, record { low = h.1.low; events_come = h.1.events_come; acts_come = h.1.acts_come; events_first = h.1.events_first })
moved n m kept to count (Between shape) h = (h.0, record { low = h.1.low; events_come = h.1.events_come; acts_come = h.1.acts_come; events_first = h.1.events_first }, h.2)
moved n m kept to count Ended h = h

-- a walk has gone one step on, before any segment: its sum is at most one duration more, and that of the other walk is not more
record HasStepped (is_crash : Bool) (old new : Kept) : Type 0 where
  normal : new.crash_walk_started ≡ is_crash
  none : new.segments ≡ 0
  short_normal : sum_of_reached new.normal ≤ sum_of_reached old.normal + cond is_crash 0 MAX_DURATION
  short_crash : sum_of_reached new.crash ≤ sum_of_reached old.crash + cond is_crash MAX_DURATION 0

has_stepped : (is_crash : Bool) (net : PricedNetwork) (code : List ℕ) (old new : Kept) → AddsToKept net (Step code) old new → old.crash_walk_started ≡ is_crash → old.segments ≡ 0 →
    HasStepped is_crash old new
has_stepped is_crash net code old new added is none = record {
  normal = ap (λ k. k.crash_walk_started) added.rest ∙ is;
  none = ap (λ k. k.segments) added.rest ∙ none;
  short_normal = subst (λ b. sum_of_reached new.normal ≤ sum_of_reached old.normal + cond b 0 MAX_DURATION) is added.short_normal;
  short_crash = subst (λ b. sum_of_reached new.crash ≤ sum_of_reached old.crash + cond b MAX_DURATION 0) is added.short_crash;
}

-- the state at each place fits the place after the line
at_place : (net : PricedNetwork) (place : Place) (line : CertLine) (behind : Place) (old new : Kept)
    → IsAtPlace net.network.events (length net.network.arcs) place old → next place line ≡ Some behind
    → first_failing (conditions net (known_by old) line) ≡ None → AddsToKept net line old new
    → IsAtPlace net.network.events (length net.network.arcs) behind new
at_place net Start (Head version project events activities) behind old new h goes passes added =
    let known = head_passes net (known_by old) version project events activities passes in
    carry net.network.events (length net.network.arcs) (record { events = known.0; activities = known.1 }, h) goes added
at_place net (AfterHead shape) Normal behind old new h goes passes added =
    carry net.network.events (length net.network.arcs) (h.0, subst (λ k. IsInNormal net.network.events k old) (sym h.0.events) (h.1)) goes added
at_place net (NormalWalk shape steps) (Step code) behind old new h goes passes added =
    let step = cond_some _ _ _ goes in
    let some : 0 < steps = ltb-true _ _ (step.0) in
    let is = has_stepped false net code old new added h.1.normal h.1.none in
    subst (λ p. IsAtPlace net.network.events (length net.network.arcs) p new) (step.1)
    (h.0, record { normal = is.normal; none = is.none; short = omega (arith, is.short_normal, h.1.short); nothing = omega (arith, is.short_crash, h.1.nothing) })
at_place net (NormalWalk shape steps) Crash behind old new h goes passes added =
    carry net.network.events (length net.network.arcs) (h.0, record { normal = refl; none = h.1.none; whole = omega (arith, h.1.short); short = omega (arith, h.1.nothing, h.0.events) }) goes added
at_place net (CrashWalk shape steps) (Step code) behind old new h goes passes added =
    let step = cond_some _ _ _ goes in
    let some : 0 < steps = ltb-true _ _ (step.0) in
    let is = has_stepped true net code old new added h.1.normal h.1.none in
    subst (λ p. IsAtPlace net.network.events (length net.network.arcs) p new) (step.1)
    (h.0, record { normal = is.normal; none = is.none; whole = omega (arith, is.short_normal, h.1.whole); short = omega (arith, is.short_crash, h.1.short) })
at_place net (CrashWalk shape steps) (Segment upper lower cost slope) behind old new h goes passes added =
    let ends = first_passes net (known_by old) upper lower cost slope h.1.none passes in
    carry net.network.events (length net.network.arcs) (h.0, begun_part net shape upper lower cost slope new (h.0) (omega (arith, ends.0, ends.1, h.1.whole)) (added.1)) goes refl
at_place net (Between shape) (Segment upper lower cost slope) behind old new h goes passes added =
    let below = later_passes net (known_by old) upper lower cost slope (h.2) passes in
    carry net.network.events (length net.network.arcs) (h.0, begun_part net shape upper lower cost slope new (h.0) (omega (arith, below, h.1.low)) (added.1)) goes refl
at_place net (Between shape) End behind old new h goes passes added = carry net.network.events (length net.network.arcs) (h.2) goes added
at_place net (InSegment shape events activities) (Event code time moves) behind old new h goes passes added =
    let step = cond_some _ _ _ goes in
    let some : 0 < events = ltb-true _ _ (step.0) in
    let adds = added.1 in
    let one_more : length new.tally.times.items ≡ length old.tally.times.items + 1 = ap length adds.times ∙ length-append old.tally.times.items (time ∷ []) in
    let same_acts : new.tally.acts ≡ old.tally.acts = ap (λ t. t.acts) adds.rest in
    let same_low : new.tally.lower ≡ old.tally.lower = ap (λ t. t.lower) adds.rest in
    subst (λ p. IsAtPlace net.network.events (length net.network.arcs) p new) (step.1) (
      h.0,
      record {
        low = omega (arith, same_low, h.1.low);
        events_come = omega (arith, one_more, h.1.events_come, some);
        acts_come = omega (arith, same_acts, h.1.acts_come);
        events_first = λ more. same_acts ∙ h.1.events_first some;
      },
    )
at_place net (InSegment shape events activities) (Act code duration flows) behind old new h goes passes added =
    let step = cond_some _ _ _ goes in
    let none : events ≡ 0 = eqb-true _ _ ((and_parts _ _ (step.0)).0) in
    let some : 0 < activities = ltb-true _ _ ((and_parts _ _ ((and_parts _ _ (step.0)).1)).0) in
    let rest = added.1.rest in
    let one_more : new.tally.acts ≡ old.tally.acts + 1 = ap (λ t. t.acts) rest in
    let same_times : length new.tally.times.items ≡ length old.tally.times.items = ap (λ t. length t.times.items) rest in
    let same_low : new.tally.lower ≡ old.tally.lower = ap (λ t. t.lower) rest in
    subst (λ p. IsAtPlace net.network.events (length net.network.arcs) p new) (step.1) (
      h.0,
      record {
        low = omega (arith, same_low, h.1.low);
        events_come = omega (arith, same_times, h.1.events_come);
        acts_come = omega (arith, one_more, h.1.acts_come, some);
        events_first = λ more. absurd (omega (arith, none, more));
      },
    )
at_place net (InSegment shape events activities) Close behind old new h goes passes added =
    let step = cond_some _ _ _ goes in
    let none : events ≡ 0 = eqb-true _ _ ((and_parts _ _ (step.0)).0) in
    let no_more : activities ≡ 0 = eqb-true _ _ ((and_parts _ _ (step.0)).1) in
    let part : IsInPart net.network.events (length net.network.arcs) 0 0 old =
    record {
      low = h.1.low;
      events_come = omega (arith, none, h.1.events_come);
      acts_come = omega (arith, no_more, h.1.acts_come);
      events_first = λ more. absurd (omega arith);
    } in
    carry net.network.events (length net.network.arcs) (
      h.0,
      record { low = part.low; events_come = part.events_come; acts_come = part.acts_come; events_first = part.events_first },
      omega arith,
    ) (ap Some (step.1)) added
at_place net place line behind old new h goes passes added = absurd (none-some behind goes)

-- ---- how many lines may still come

-- a segment below another one takes no more lines than that leaves
lines_below-less : (n m low high : ℕ) → low < high → n + (m + (1 + lines_below n m low)) < lines_below n m high
lines_below-less n m low high less =
    let more : low + 1 ≤ high = omega arith in
    omega (arith, mul-le-mul_right (n + m + 2) more)

fewer_lines : (net : PricedNetwork) (place : Place) (line : CertLine) (behind : Place) (old new : Kept)
    → IsAtPlace net.network.events (length net.network.arcs) place old → next place line ≡ Some behind
    → first_failing (conditions net (known_by old) line) ≡ None → AddsToKept net line old new
    → lines_from net.network.events (length net.network.arcs) behind new.tally.lower < lines_from net.network.events (length net.network.arcs) place old.tally.lower
fewer_lines net Start (Head version project events activities) behind old new h goes passes added =
    less net.network.events (length net.network.arcs) new goes (omega arith)
fewer_lines net (AfterHead shape) Normal behind old new h goes passes added =
    less net.network.events (length net.network.arcs) new goes (omega (arith, h.0.events))
fewer_lines net (NormalWalk shape steps) (Step code) behind old new h goes passes added =
    let step = cond_some _ _ _ goes in
    let some : 0 < steps = ltb-true 0 steps (step.0) in
    less net.network.events (length net.network.arcs) new (ap Some (step.1)) (omega arith)
fewer_lines net (NormalWalk shape steps) Crash behind old new h goes passes added =
    less net.network.events (length net.network.arcs) new goes (omega (arith, h.0.events))
fewer_lines net (CrashWalk shape steps) (Step code) behind old new h goes passes added =
    let step = cond_some _ _ _ goes in
    let some : 0 < steps = ltb-true 0 steps (step.0) in
    less net.network.events (length net.network.arcs) new (ap Some (step.1)) (omega arith)
fewer_lines net (CrashWalk shape steps) (Segment upper lower cost slope) behind old new h goes passes added =
    let ends = first_passes net (known_by old) upper lower cost slope h.1.none passes in
    let low : new.tally.lower < longest_walk net.network.events + 1 = omega (arith, ends.0, ends.1, h.1.whole, added.1.lower) in
    less net.network.events (length net.network.arcs) new goes
    (omega (
      arith,
      lines_below-less net.network.events (length net.network.arcs) new.tally.lower
          (longest_walk net.network.events + 1) low,
      h.0.events,
      h.0.activities,
    ))
fewer_lines net (Between shape) (Segment upper lower cost slope) behind old new h goes passes added =
    let below = later_passes net (known_by old) upper lower cost slope (h.2) passes in
    let low : new.tally.lower < old.tally.lower = omega (arith, below, added.1.lower) in
    less net.network.events (length net.network.arcs) new goes
    (omega (
      arith,
      lines_below-less net.network.events (length net.network.arcs) new.tally.lower old.tally.lower low,
      h.0.events,
      h.0.activities,
    ))
fewer_lines net (Between shape) End behind old new h goes passes added =
    less net.network.events (length net.network.arcs) new goes (omega arith)
fewer_lines net (InSegment shape events activities) (Event code time moves) behind old new h goes passes added =
    let step = cond_some _ _ _ goes in
    let some : 0 < events = ltb-true 0 events (step.0) in
    let same : new.tally.lower ≡ old.tally.lower = ap (λ t. t.lower) added.1.rest in
    less net.network.events (length net.network.arcs) new (ap Some (step.1)) (rw same (omega arith))
fewer_lines net (InSegment shape events activities) (Act code duration flows) behind old new h goes passes added =
    let step = cond_some _ _ _ goes in
    let some : 0 < activities = ltb-true 0 activities ((and_parts _ _ ((and_parts _ _ (step.0)).1)).0) in
    let same : new.tally.lower ≡ old.tally.lower = ap (λ t. t.lower) added.1.rest in
    less net.network.events (length net.network.arcs) new (ap Some (step.1)) (rw same (omega arith))
fewer_lines net (InSegment shape events activities) Close behind old new h goes passes added =
    let step = cond_some _ _ _ goes in
    let same : new.tally.lower ≡ old.tally.lower = ap (λ k. k.tally.lower) added in
    less net.network.events (length net.network.arcs) new (ap Some (step.1)) (rw same (omega arith))
fewer_lines net place line behind old new h goes passes added = absurd (none-some behind goes)

-- ---- all that is preserved

-- the bound on lines is small
all_few : (n m : ℕ) → n ≤ MAX_EVENTS → m ≤ MAX_ACTIVITIES → lines_of_all n m < 2 ^ 63
all_few n m few_events few_acts =
    let long : longest_walk n + 1 ≤ 1000000001 = omega arith in
    let unit : n + m + 2 ≤ 30002 = omega arith in
    omega (arith, mul-le-mul_right (n + m + 2) long, mul-le-mul_left 1000000001 unit)

segments_kept : (net : PricedNetwork) (line : CertLine) (old new : Kept) → AddsToKept net line old new → (new.segments ≤ old.segments + 1) × (new.lines ≡ old.lines)
segments_kept net (Head version project events activities) old new added = (omega (arith, ap (λ k. k.segments) added), ap (λ k. k.lines) added)
segments_kept net Normal old new added = (omega (arith, ap (λ k. k.segments) added), ap (λ k. k.lines) added)
segments_kept net (Step code) old new added = (omega (arith, ap (λ k. k.segments) added.rest), ap (λ k. k.lines) added.rest)
segments_kept net Crash old new added = (omega (arith, ap (λ k. k.segments) added), ap (λ k. k.lines) added)
segments_kept net (Segment upper lower cost slope) old new added = (omega (arith, ap (λ k. k.segments) (added.0)), ap (λ k. k.lines) (added.0))
segments_kept net (Event code time moves) old new added = (omega (arith, ap (λ k. k.segments) (added.0)), ap (λ k. k.lines) (added.0))
segments_kept net (Act code duration flows) old new added = (omega (arith, ap (λ k. k.segments) (added.0)), ap (λ k. k.lines) (added.0))
segments_kept net Close old new added = (omega (arith, ap (λ k. k.segments) added), ap (λ k. k.lines) added)
segments_kept net End old new added = (omega (arith, ap (λ k. k.segments) added), ap (λ k. k.lines) added)

moves_kept : (net : PricedNetwork) (line : CertLine) (old new : Kept) → AddsToKept net line old new →
    length old.tally.moves.items ≡ length old.tally.times.items → length new.tally.moves.items ≡ length new.tally.times.items
moves_kept net (Head version project events activities) old new added h = ap (λ k. length k.tally.moves.items) added ∙ h ∙ ap (λ k. length k.tally.times.items) (sym added)
moves_kept net Normal old new added h = ap (λ k. length k.tally.moves.items) added ∙ h ∙ ap (λ k. length k.tally.times.items) (sym added)
moves_kept net (Step code) old new added h = ap (λ k. length k.tally.moves.items) added.rest ∙ h ∙ ap (λ k. length k.tally.times.items) (sym added.rest)
moves_kept net Crash old new added h = ap (λ k. length k.tally.moves.items) added ∙ h ∙ ap (λ k. length k.tally.times.items) (sym added)
moves_kept net (Segment upper lower cost slope) old new added h = ap length added.1.moves ∙ ap length (sym added.1.times)
moves_kept net (Event code time moves) old new added h =
    let a = added.1 in
    omega (arith, ap length a.times, ap length a.moves_too, length-append old.tally.times.items (time ∷ []), length-append old.tally.moves.items (moves ∷ []), h)
moves_kept net (Act code duration flows) old new added h =
    let rest = added.1.rest in
    ap (λ t. length t.moves.items) rest ∙ h ∙ ap (λ t. length t.times.items) (sym rest)
moves_kept net Close old new added h = ap (λ k. length k.tally.moves.items) added ∙ h ∙ ap (λ k. length k.tally.times.items) (sym added)
moves_kept net End old new added h = ap (λ k. length k.tally.moves.items) added ∙ h ∙ ap (λ k. length k.tally.times.items) (sym added)

-- a line that is allowed and does not fail
pub record Passes (net : PricedNetwork) (line : CertLine) (old : Kept) (behind : Place) : Type 0 where
  pub goes : next old.place line ≡ Some behind
  pub passes : first_failing (conditions net (known_by old) line) ≡ None

-- the bounds hold after the line too, and fewer lines may come
pub bounded_behind : {net : PricedNetwork} {line : CertLine} {old : Kept} {behind : Place} (between : Kept) → IsBounded net old →
    Passes net line old behind → AddsToKept net line old between → IsBounded net (moved_on between behind)
bounded_behind {net} {line} {old} {behind} between h p added =
    let fewer = fewer_lines net old.place line behind old between h.place p.goes p.passes added in
    let kept = segments_kept net line old between added in
    record {
      place = moved net.network.events (length net.network.arcs) between behind (between.lines + 1) behind (at_place net old.place line behind old between h.place p.goes p.passes added);
      lines = omega (arith, fewer, kept.1, h.lines);
      segments = omega (arith, kept.0, kept.1, h.segments);
      moves = moves_kept net line old between added h.moves;
    }

pub fewer_behind : {net : PricedNetwork} {line : CertLine} {old : Kept} {behind : Place} (between : Kept) → IsBounded net old →
    Passes net line old behind → AddsToKept net line old between → lines_left net (moved_on between behind) < lines_left net old
fewer_behind {net} {line} {old} {behind} between h p added = fewer_lines net old.place line behind old between h.place p.goes p.passes added

-- the count of lines has capacity
pub lines_few : {net : PricedNetwork} {kept : Kept} → IsBounded net kept → net.network.events ≤ MAX_EVENTS → length net.network.arcs ≤ MAX_ACTIVITIES → kept.lines < 2 ^ 63
lines_few {net} {kept} h few_events few_acts = omega (arith, h.lines, all_few net.network.events (length net.network.arcs) few_events few_acts)

walk_has_room : (n m : ℕ) (place : Place) (code : List ℕ) (behind : Place) (old : Kept) → IsAtPlace n m place old →
    next place (Step code) ≡ Some behind → n ≤ MAX_EVENTS →
    (sum_of_reached old.normal + MAX_DURATION < 2 ^ 64) × (sum_of_reached old.crash + MAX_DURATION < 2 ^ 64)
walk_has_room n m (NormalWalk shape steps) code behind old h goes few = (omega (arith, h.1.short), omega (arith, h.1.nothing))
walk_has_room n m (CrashWalk shape steps) code behind old h goes few = (omega (arith, h.1.whole), omega (arith, h.1.short))
walk_has_room n m Start code behind old h goes few = absurd (none-some behind goes)
walk_has_room n m (AfterHead shape) code behind old h goes few = absurd (none-some behind goes)
walk_has_room n m (InSegment shape events activities) code behind old h goes few = absurd (none-some behind goes)
walk_has_room n m (Between shape) code behind old h goes few = absurd (none-some behind goes)
walk_has_room n m Ended code behind old h goes few = absurd (none-some behind goes)

-- a line that is allowed and does not fail can be added
pub may_be_added : (net : PricedNetwork) (line : CertLine) (old : Kept) (behind : Place) → IsBounded net old → Passes net line old behind →
    net.network.events ≤ MAX_EVENTS → length net.network.arcs ≤ MAX_ACTIVITIES → MayBeAdded net line old
may_be_added net (Step code) old behind h p few_events few_acts = walk_has_room net.network.events (length net.network.arcs) old.place code behind old h.place p.goes few_events
may_be_added net (Event code time moves) old behind h p few_events few_acts =
    let room = event_passes net (known_by old) code time moves p.passes in
    (room, omega (arith, room, h.moves))
may_be_added net (Act code duration flows) old behind h p few_events few_acts = act_passes net (known_by old) code duration flows p.passes
may_be_added net Close old behind h p few_events few_acts = omega (arith, h.segments, lines_few h few_events few_acts)
may_be_added net (Head version project events activities) old behind h p few_events few_acts = tt
may_be_added net Normal old behind h p few_events few_acts = tt
may_be_added net Crash old behind h p few_events few_acts = tt
may_be_added net (Segment upper lower cost slope) old behind h p few_events few_acts = tt
may_be_added net End old behind h p few_events few_acts = tt

-- the events of a segment come before its activities
pub event_first : (net : PricedNetwork) (place : Place) (code : List ℕ) (time : ℕ) (moves : Bool) (behind : Place) (old : Kept) →
    IsAtPlace net.network.events (length net.network.arcs) place old → next place (Event code time moves) ≡ Some behind → old.tally.acts ≡ 0
event_first net (InSegment shape events activities) code time moves behind old h goes =
    h.1.events_first (ltb-true 0 events ((cond_some _ _ _ goes).0))
event_first net Start code time moves behind old h goes = absurd (none-some behind goes)
event_first net (AfterHead shape) code time moves behind old h goes = absurd (none-some behind goes)
event_first net (NormalWalk shape steps) code time moves behind old h goes = absurd (none-some behind goes)
event_first net (CrashWalk shape steps) code time moves behind old h goes = absurd (none-some behind goes)
event_first net (Between shape) code time moves behind old h goes = absurd (none-some behind goes)
event_first net Ended code time moves behind old h goes = absurd (none-some behind goes)

-- a segment ends after all its activities
pub all_come : (net : PricedNetwork) (place behind : Place) (old : Kept) →
    IsAtPlace net.network.events (length net.network.arcs) place old → next place Close ≡ Some behind →
    old.tally.acts ≡ length net.network.arcs
all_come net (InSegment shape events activities) behind old h goes =
    let no_more : activities ≡ 0 = eqb-true _ _ ((and_parts _ _ ((cond_some _ _ _ goes).0)).1) in
    omega (arith, no_more, h.1.acts_come)
all_come net Start behind old h goes = absurd (none-some behind goes)
all_come net (AfterHead shape) behind old h goes = absurd (none-some behind goes)
all_come net (NormalWalk shape steps) behind old h goes = absurd (none-some behind goes)
all_come net (CrashWalk shape steps) behind old h goes = absurd (none-some behind goes)
all_come net (Between shape) behind old h goes = absurd (none-some behind goes)
all_come net Ended behind old h goes = absurd (none-some behind goes)

-- a line is counted once
pub lines_kept : (net : PricedNetwork) (line : CertLine) (old new : Kept) → AddsToKept net line old new → new.lines ≡ old.lines
lines_kept net line old new added = (segments_kept net line old new added).1
