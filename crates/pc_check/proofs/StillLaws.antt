-- An activity that does not cross the cut has the same gap at both ends of a segment, and does not stop.
use Rattle.std.proofs.Common.{◌≡◌, ℕ, ◌+◌, zero, suc, Bool, true, false, not, ◌&&◌, ◌||◌, List, length, refl, sym, ap, ◌∙◌, arith, ⊎_elim}
use Rattle.std.specs.Prelude.{nat_lt, slice_index, if◌then◌else◌}
use Rattle.std.proofs.lemmas.Bool.{cases_lt, lt-ltb, le-ltb, le-leb, leb-true, or_parts}
use Rattle.pc_model.specs.declared.Arc.{Arc}
use Rattle.pc_model.specs.declared.Knee.{Knee}
use Rattle.pc_model.specs.inside.Pieces.{knee_at}
use Rattle.pc_model.specs.Schedule.{crash_of}
use Rattle.pc_model.specs.Walk.{from_of, to_of}
use Rattle.pc_crash.specs.Priced.{PricedNetwork, knees_in}
use Rattle.pc_laws.specs.Segment.{Segment, span, head_at, tail_at, is_forward, is_backward}
use Rattle.pc_check.specs.Conditions.{has_room, is_slack, is_slack_in}
use Rattle.pc_check.specs.inside.Crossings.{IsCrossing, EndsMoveAlike}
use Rattle.pc_check.specs.declared.gaps.Crossing.{Crossing}
use Rattle.pc_check.specs.Known.{each_below, some_below}
use Rattle.pc_check.specs.KneeTests.{is_slack_at_knee}
use Rattle.pc_check.specs.inside.KneeTests.{stops_at_knee_over, stops_over}
use Rattle.pc_check.specs.Segments.{stops_at_knee_in, stops_in}
use Rattle.pc_check.proofs.BelowLaws.{each_below-same}

-- ---- tests of two numbers that grow by the same

lt_shift : (x y s : ℕ) → nat_lt (x + s) (y + s) ≡ nat_lt x y
lt_shift x y s =
    ⊎_elim (λ less. lt-ltb (x + s) (y + s) (omega arith) ∙ sym (lt-ltb x y less))
    (λ more. le-ltb (x + s) (y + s) (omega arith) ∙ sym (le-ltb x y (omega arith))) (cases_lt x y)

swapped : (t s k : ℕ) → t + s + k ≡ t + k + s
swapped t s k = omega arith

below_shift : (t h s k : ℕ) → nat_lt (t + s + k) (h + s) ≡ nat_lt (t + k) h
below_shift t h s k = ap (λ x. nat_lt x (h + s)) (swapped t s k) ∙ lt_shift (t + k) h s

above_shift : (t h s k : ℕ) → nat_lt (h + s) (t + s + k) ≡ nat_lt h (t + k)
above_shift t h s k = ap (λ x. nat_lt (h + s) x) (swapped t s k) ∙ lt_shift h (t + k) s

-- ---- a gap whose two sides grow by the same

knee_shift : (h t s knee rise flow : ℕ) → is_slack_at_knee (h + s) (t + s) knee rise flow ≡ is_slack_at_knee h t knee rise flow
knee_shift h t s knee rise flow = rw (below_shift t h s knee, above_shift t h s knee) refl

slack_shift : (net : PricedNetwork) (a h t s : ℕ) (flows : List ℕ) → is_slack_in net (h + s) (t + s) a flows ≡ is_slack_in net h t a flows
slack_shift net a h t s flows =
    let knees = knees_in net in
    let each : each_below (knees.count a) (λ k. is_slack_at_knee (h + s) (t + s) (knees.knee a k) (knees.rise a k) (slice_index flows k))
    ≡ each_below (knees.count a) (λ k. is_slack_at_knee h t (knees.knee a k) (knees.rise a k) (slice_index flows k)) =
    each_below-same (knees.count a) _ _ (λ k lt. knee_shift h t s (knees.knee a k) (knees.rise a k) (slice_index flows k)) in
    rw (each, below_shift t h s (crash_of net.terms a)) refl

-- ---- the gaps of an activity that does not cross the cut

-- by how much both sides grow
record GrowsAlike (head head_then tail tail_then : ℕ) : Type 0 where
  pub by : ℕ
  pub head_is : head_then ≡ head + by
  pub tail_is : tail_then ≡ tail + by

alike : (from to : Bool) (x y span : ℕ) → from ≡ to → GrowsAlike (y + (if from then 0 else 0)) (y + (if from then span else 0)) (x + (if to then 0 else 0)) (x + (if to then span else 0))
alike true true x y span same = record { by = span; head_is = omega arith; tail_is = omega arith }
alike false false x y span same = record { by = 0; head_is = omega arith; tail_is = omega arith }
alike true false x y span same = absurd cc
alike false true x y span same = absurd cc

grows_alike : (arcs : List Arc) (seg : Segment) (a : ℕ) → EndsMoveAlike arcs seg.moves a →
    GrowsAlike (head_at arcs seg 0 a) (head_at arcs seg (span seg) a) (tail_at arcs seg 0 a) (tail_at arcs seg (span seg) a)
grows_alike arcs seg a still = alike (seg.moves (from_of arcs a)) (seg.moves (to_of arcs a)) (seg.time (from_of arcs a)) (seg.time (to_of arcs a)) (span seg) still

-- where nothing has fallen, the gap is that between the times of the two events
not_fallen : (moves : Bool) (time : ℕ) → time + (if moves then 0 else 0) ≡ time
not_fallen true time = omega arith
not_fallen false time = omega arith

pub head_before : (arcs : List Arc) (seg : Segment) (a : ℕ) → head_at arcs seg 0 a ≡ seg.time (to_of arcs a)
head_before arcs seg a = not_fallen (seg.moves (from_of arcs a)) (seg.time (to_of arcs a))

pub tail_before : (arcs : List Arc) (seg : Segment) (a : ℕ) → tail_at arcs seg 0 a ≡ seg.time (from_of arcs a)
tail_before arcs seg a = not_fallen (seg.moves (to_of arcs a)) (seg.time (from_of arcs a))

and_itself : (b other : Bool) → other ≡ b → b ≡ (b && other)
and_itself true other same = sym same
and_itself false other same = refl

pub still_slack : (net : PricedNetwork) (seg : Segment) (a : ℕ) (flows : List ℕ) → EndsMoveAlike net.network.arcs seg.moves a →
    is_slack net seg 0 a flows ≡ (is_slack net seg 0 a flows && is_slack net seg (span seg) a flows)
still_slack net seg a flows still =
    let grows = grows_alike net.network.arcs seg a still in
    let head = head_at net.network.arcs seg 0 a in
    let tail = tail_at net.network.arcs seg 0 a in
    and_itself (is_slack net seg 0 a flows) (is_slack net seg (span seg) a flows)
    (ap (λ h. is_slack_in net h (tail_at net.network.arcs seg (span seg) a) a flows) grows.head_is
    ∙ ap (λ t. is_slack_in net (head + grows.by) t a flows) grows.tail_is
    ∙ slack_shift net a head tail grows.by flows)

pub still_room : (net : PricedNetwork) (seg : Segment) (a : ℕ) → EndsMoveAlike net.network.arcs seg.moves a → has_room net seg 0 a ≡ true → (has_room net seg 0 a && has_room net seg (span seg) a)
    ≡ true
still_room net seg a still room =
    let grows = grows_alike net.network.arcs seg a still in
    let enough = leb-true (tail_at net.network.arcs seg 0 a + crash_of net.terms a) (head_at net.network.arcs seg 0 a) room in
    let below : has_room net seg (span seg) a ≡ true =
    le-leb (tail_at net.network.arcs seg (span seg) a + crash_of net.terms a) (head_at net.network.arcs seg (span seg) a) (omega (arith, grows.head_is, grows.tail_is, enough)) in
    rw (room, below) refl

-- ---- it does not stop

none_below : (n : ℕ) (test : ℕ → Bool) → ((k : ℕ) → test k ≡ false) → some_below n test ≡ false
none_below zero test none = refl
none_below (suc n) test none = rw (none_below n test none, none n) refl

never : (same : Bool) → (same && false) ≡ false
never true = refl
never false = refl

pub no_stop : (crossing : Crossing) (crash : ℕ) (knees : List Knee) → (crossing.forward || crossing.backward) ≡ false → stops_over crossing crash knees ≡ false
no_stop crossing crash knees still =
    let parts = or_parts crossing.forward crossing.backward still in
    let none : some_below (length knees) (λ k. stops_at_knee_over crossing (knee_at knees k).at) ≡ false =
    none_below (length knees) (λ k. stops_at_knee_over crossing (knee_at knees k).at) (λ k. rw (parts.0, parts.1) (never _)) in
    rw (none, parts.0) refl

-- ---- it leads from a resting to a moving event no more than the other way round

same_bits : (from to : Bool) → (not from && to) ≡ false → (from && not to) ≡ false → from ≡ to
same_bits true true p q = refl
same_bits false false p q = refl
same_bits true false p q = absurd cc
same_bits false true p q = absurd cc

-- an activity that crosses neither way
pub stands_still : (arcs : List Arc) (seg : Segment) (a : ℕ) (crossing : Crossing) → IsCrossing arcs seg a crossing → (crossing.forward || crossing.backward) ≡ false → EndsMoveAlike arcs seg.moves a
stands_still arcs seg a crossing is still =
    let parts = or_parts crossing.forward crossing.backward still in
    same_bits (seg.moves (from_of arcs a)) (seg.moves (to_of arcs a)) (sym is.forward ∙ parts.0) (sym is.backward ∙ parts.1)

neither : (from to : Bool) → from ≡ to → ((not from && to) ≡ false) × ((from && not to) ≡ false)
neither true true same = (refl, refl)
neither false false same = (refl, refl)
neither true false same = absurd cc
neither false true same = absurd cc

pub rests : (arcs : List Arc) (seg : Segment) (a : ℕ) → EndsMoveAlike arcs seg.moves a → (is_forward arcs seg.moves a ≡ false) × (is_backward arcs seg.moves a ≡ false)
rests arcs seg a still = neither (seg.moves (from_of arcs a)) (seg.moves (to_of arcs a)) still

pub no_stop_in : (net : PricedNetwork) (seg : Segment) (a : ℕ) → EndsMoveAlike net.network.arcs seg.moves a → stops_in net seg a ≡ false
no_stop_in net seg a still =
    let parts = rests net.network.arcs seg a still in
    let none : some_below ((knees_in net).count a) (stops_at_knee_in net seg a) ≡ false =
    none_below ((knees_in net).count a) (stops_at_knee_in net seg a) (λ k. rw (parts.0, parts.1) (never _)) in
    rw (none, parts.0) refl
