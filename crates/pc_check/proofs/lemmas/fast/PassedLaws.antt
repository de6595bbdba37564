-- What passed last of an activity, and why it passes again.
use Rattle.std.proofs.Common.{◌≡◌, ◌≢◌, ℕ, ◌+◌, ◌*◌, ◌^◌, ◌<◌, ◌≤◌, true, not, ◌&&◌, ◌||◌, List, [], length, replicate, set, None, refl, sym, ap, subst, ◌∙◌, arith, ⊎_elim}
use Rattle.std.specs.Prelude.{◌==◌, nat_lt, slice_index, slice_index_or}
use Rattle.std.proofs.Math.Bool.{or-false}
use Rattle.std.proofs.lemmas.Bool.{cases_eq, eq-eqb, eqb-true, le-leb, le-ltb, and_parts}
use Rattle.std.proofs.lemmas.List.{get_or_default, get_or-replicate, get_or-set_same, get_or-set_other, length-replicate, length-set}
use Rattle.pc_model.specs.declared.Knee.{Knee}
use Rattle.pc_model.specs.inside.Pieces.{knee_at}
use Rattle.pc_model.specs.Schedule.{normal_of, crash_of, lesser_of}
use Rattle.pc_model.specs.Walk.{from_of, to_of}
use Rattle.pc_laws.specs.Segment.{Segment, head_at, span, tail_at}
use Rattle.pc_crash.specs.inside.KneeLists.{AreKneesOf}
use Rattle.pc_crash.specs.Priced.{PricedNetwork, knees_in}
use Rattle.pc_cert.specs.declared.line.CertLine.TheVariants.{Act}
use Rattle.pc_cert.specs.inside.Known.{HasText, IsLineTextOf}
use Rattle.pc_check.specs.Conditions.{conditions, has_act_code, has_duration, has_room, is_slack, is_slack_in, is_within_capacity}
use Rattle.pc_check.specs.inside.Crossings.{EndsMoveAlike}
use Rattle.pc_check.specs.Failures.{first_failing}
use Rattle.pc_check.specs.Known.{Known, each_below, frame}
use Rattle.pc_check.specs.KneeTests.{is_slack_at_knee}
use Rattle.pc_check.specs.inside.KneeTests.{is_slack_over}
use Rattle.pc_check.specs.inside.fast.Passed.{IsGapWithin, FitsWithin, HasPassed, IsPassed, passed_at, passed_flow, passed_cost, ArePassed, IsNothing, ComesAgain, PassesAcross}
use Rattle.pc_check.specs.inside.Kept.{stretch_of}
use Rattle.pc_check.specs.inside.Safe.{IsRenewed, IsSafe, AddsAct, IsCutOf, joined_cuts, no_cut}
use Rattle.pc_check.specs.declared.cut.Cut.{Cut}
use Rattle.pc_check.specs.declared.kept.Tally.{Tally}
use Rattle.pc_check.specs.declared.fast.passed.Passed.{Passed}
use Rattle.pc_check.proofs.BelowLaws.{each_below-all, passes_behind}
use Rattle.pc_check.proofs.KneeLaws.{is_slack-list}
use Rattle.pc_check.proofs.ReasonLaws.{holds_first}
use Rattle.pc_check.proofs.StillLaws.{head_before, tail_before, rests, no_stop_in, still_room, still_slack}

-- ---- gaps that flows fit

-- where the gap is above a duration only if nothing flows
above_fits : (high head tail at flow : ℕ) → head ≤ tail + high → (flow ≢ 0 → high ≤ at) → (not (nat_lt (tail + at) head) || flow == 0) ≡ true
above_fits high head tail at flow below low =
    ⊎_elim (λ none. sym (passes_behind _ _ (eq-eqb flow 0 none)))
    (λ some. rw (le-ltb (tail + at) head (omega (arith, below, low some))) refl) (cases_eq flow 0)

below_fits : (low head tail at rise flow : ℕ) → tail + low ≤ head → (flow ≢ rise → at ≤ low) → (not (nat_lt head (tail + at)) || flow == rise) ≡ true
below_fits low head tail at rise flow above high =
    ⊎_elim (λ whole. sym (passes_behind _ _ (eq-eqb flow rise whole)))
    (λ other. rw (le-ltb head (tail + at) (omega (arith, above, high other))) refl) (cases_eq flow rise)

slack_within : {crash low high : ℕ} (knees : List Knee) (flows : List ℕ) (head tail : ℕ) →
    FitsWithin crash knees flows (length knees) low high → IsGapWithin low high head tail → is_slack_over head tail crash knees flows ≡ true
slack_within {crash} {low} {high} knees flows head tail fits is =
    let each : each_below (length knees) (λ k. is_slack_at_knee head tail (knee_at knees k).at (knee_at knees k).rise (slice_index flows k)) ≡ true =
    each_below-all (length knees) _ (λ k lt. rw (
      above_fits high head tail (knee_at knees k).at (slice_index flows k) is.below (fits.empty k lt),
      below_fits low head tail (knee_at knees k).at (knee_at knees k).rise (slice_index flows k) is.above (fits.full k lt),
    ) refl) in
    rw (each, above_fits high head tail crash (slice_index flows (length knees)) is.below fits.beside) refl

-- the same of the knees of an activity
pub slack_in_within : {low high : ℕ} (net : PricedNetwork) (a : ℕ) (list : List Knee) (flows : List ℕ) (head tail : ℕ) →
    AreKneesOf (knees_in net) a list → FitsWithin (crash_of net.terms a) list flows (length list) low high → IsGapWithin low high head tail →
    is_slack_in net head tail a flows ≡ true
slack_in_within net a list flows head tail are fits is =
    sym (is_slack-list (knees_in net) a list are head tail (crash_of net.terms a) flows) ∙ slack_within list flows head tail fits is

-- ---- nothing has passed

pub nothing_passed : (net : PricedNetwork) (nothing : Passed) → (HasText nothing.text → ⊥) → IsLineTextOf None nothing.text → nothing.flow ≡ 0 →
    nothing.cost ≡ 0 → ArePassed net (replicate (length net.network.arcs) nothing)
nothing_passed net nothing none text no_flow no_cost = record {
  one_each = length-replicate (length net.network.arcs) nothing;
  each = λ a below. subst (IsPassed net a) (sym (get_or-replicate (length net.network.arcs) a nothing _ below))
      (record { text = (None, text); has = λ some. absurd (none some); small = omega (arith, no_flow); cheap = omega (arith, no_cost) });
}

pub nothing_flows : (net : PricedNetwork) (nothing : Passed) → nothing.flow ≡ 0 → nothing.cost ≡ 0 → IsNothing net (replicate (length net.network.arcs) nothing)
nothing_flows net nothing no_flow no_cost = record {
  flow = λ a below. ap (λ (row : Passed). row.flow) (get_or-replicate (length net.network.arcs) a nothing _ below) ∙ no_flow;
  cost = λ a below. ap (λ (row : Passed). row.cost) (get_or-replicate (length net.network.arcs) a nothing _ below) ∙ no_cost;
}

-- ---- something has passed

passed_so : (net : PricedNetwork) (a : ℕ) (row : Passed) → HasPassed net a row → IsPassed net a row
passed_so net a row it = record { text = (it.line, it.text); has = λ some. it; small = it.small; cheap = it.cheap }

pub passed_with : {net : PricedNetwork} {rows : List Passed} (a : ℕ) (row : Passed) → ArePassed net rows → a < length net.network.arcs → HasPassed net a row → ArePassed net (set rows a row)
passed_with {net} {rows} a row are known has = record {
  one_each = length-set rows a row ∙ are.one_each;
  each = λ b below. ⊎_elim
      (λ here. subst (λ i. IsPassed net i (passed_at (set rows a row) i)) (sym here)
      (subst (IsPassed net a) (sym (get_or-set_same rows a row _ (omega (arith, known, are.one_each)))) (passed_so net a row has)))
      (λ other. subst (IsPassed net b) (sym (get_or-set_other rows a b row _ other)) (are.each b below)) (cases_eq b a);
}

-- a row as it is read
pub row_read : {net : PricedNetwork} {rows : List Passed} (a : ℕ) (row : Passed) → ArePassed net rows → a < length net.network.arcs → row ≡ slice_index_or rows a row → row ≡ passed_at rows a
row_read {net} {rows} a row are known is =
    let default : Passed = record { text = record { cells = []; len = 0 }; duration = 0; flows = []; flow = 0; cost = 0; least = 0; most = 0; low = 0; high = 0 } in
    is ∙ get_or_default rows a row default (omega (arith, known, are.one_each))

pub read_passed : {net : PricedNetwork} {rows : List Passed} (a : ℕ) (row : Passed) → ArePassed net rows → a < length net.network.arcs → row ≡ slice_index_or rows a row → IsPassed net a row
read_passed {net} {rows} a row are known is = subst (IsPassed net a) (sym (row_read a row are known is)) (are.each a known)

-- one row is another, and the others are what they were
pub row_renewed : {net : PricedNetwork} {rows : List Passed} (a : ℕ) (row : Passed) → ArePassed net rows → a < length net.network.arcs → IsRenewed rows (set rows a row) a row.flow row.cost
row_renewed {net} {rows} a row are known =
    let here : passed_at (set rows a row) a ≡ row = get_or-set_same rows a row _ (omega (arith, known, are.one_each)) in record {
      flow = ap (λ (r : Passed). r.flow) here;
      cost = ap (λ (r : Passed). r.cost) here;
      others = λ b other. get_or-set_other rows a b row _ other;
    }

-- ---- what an activity adds that passes as it passed last

pub adds_across : {net : PricedNetwork} {old new : Tally} {more : Cut} → IsCutOf net (stretch_of old) old.acts more
    → HasPassed net old.acts (passed_at old.rows.items old.acts)
    → new ≡ record old { acts = old.acts + 1; cut = joined_cuts old.cut more }
    → AddsAct net old (passed_at old.rows.items old.acts).duration (passed_at old.rows.items old.acts).flows new
adds_across {net} {old} {new} {more} adds has rest =
    let rows : new.rows.items ≡ old.rows.items = ap (λ t. t.rows.items) rest in record {
      rest = rest ∙ rw (
        ap (λ t. t.rows) rest,
        ap (λ t. t.inflow) rest,
        ap (λ t. t.outflow) rest,
        ap (λ t. t.spent) rest,
        ap (λ t. t.cut) rest,
      ) refl;
      row = record {
        flow = ap (λ r. passed_flow r old.acts) rows ∙ has.flow;
        cost = ap (λ r. passed_cost r old.acts) rows ∙ has.cost;
        others = λ b other. ap (λ r. passed_at r b) rows;
      };
      forward = ap (λ t. t.cut.forward) rest ∙ ap (λ n. old.cut.forward + n) adds.forward;
      backward = ap (λ t. t.cut.backward) rest ∙ ap (λ n. old.cut.backward + n) adds.backward;
      stops = ap (λ t. t.cut.stops) rest ∙ ap (λ b. old.cut.stops || b) adds.stops;
    }

-- where it does not cross the cut, it adds nothing to the sums
adds_nothing : {net : PricedNetwork} (seg : Segment) (a : ℕ) → EndsMoveAlike net.network.arcs seg.moves a → IsCutOf net seg a no_cut
adds_nothing {net} seg a still =
    let parts = rests net.network.arcs seg a still in
    record {
      forward = rw (parts.0) refl;
      backward = rw (parts.1) refl;
      stops = sym (no_stop_in net seg a still);
      small_forward = omega arith;
      small_backward = omega arith;
    }

same_cut : (cut : Cut) → cut ≡ joined_cuts cut no_cut
same_cut cut =
    ap (λ n. record cut { forward = n }) (omega arith)
    ∙ ap (λ n. record cut { forward = cut.forward + 0; backward = n }) (omega arith)
    ∙ ap (λ b. record cut { forward = cut.forward + 0; backward = cut.backward + 0; stops = b }) (sym (or-false cut.stops))

pub adds_again : {net : PricedNetwork} {old new : Tally} → EndsMoveAlike net.network.arcs (stretch_of old).moves old.acts → HasPassed net old.acts (passed_at old.rows.items old.acts)
    → new ≡ record old { acts = old.acts + 1 }
    → AddsAct net old (passed_at old.rows.items old.acts).duration (passed_at old.rows.items old.acts).flows new
adds_again {net} {old} {new} still has rest = adds_across (adds_nothing (stretch_of old) old.acts still) has (rest ∙ ap (λ cut. record old { acts = old.acts + 1; cut = cut }) (same_cut old.cut))

-- one more activity was added, and the sums of the cut are no larger than it can make them
safe_with : {net : PricedNetwork} {old : Tally} (cut : Cut) → IsSafe net old → old.acts < length net.network.arcs
    → cut.forward ≤ (old.acts + 1) * 2 ^ 67 → cut.backward ≤ (old.acts + 1) * 2 ^ 67 → IsSafe net (record old { acts = old.acts + 1; cut = cut })
safe_with {net} {old} cut safe known forward backward = record {
  times = safe.times;
  moves = safe.moves;
  entering = safe.entering;
  leaving = safe.leaving;
  acts = omega (arith, known);
  rows = safe.rows;
  inflow = safe.inflow;
  outflow = safe.outflow;
  spent = safe.spent;
  forward = forward;
  backward = backward;
}

-- the sums of the cut have grown
pub safe_across : {net : PricedNetwork} {old : Tally} {more : Cut} → IsSafe net old → old.acts < length net.network.arcs
    → IsCutOf net (stretch_of old) old.acts more → IsSafe net (record old { acts = old.acts + 1; cut = joined_cuts old.cut more })
safe_across {net} {old} {more} safe known adds =
    safe_with (joined_cuts old.cut more) safe known (omega (arith, safe.forward, adds.small_forward)) (omega (arith, safe.backward, adds.small_backward))

-- the sums stay
pub safe_again : {net : PricedNetwork} {old : Tally} → IsSafe net old → old.acts < length net.network.arcs → IsSafe net (record old { acts = old.acts + 1 })
safe_again {net} {old} safe known = safe_with old.cut safe known (omega (arith, safe.forward)) (omega (arith, safe.backward))

-- ---- it passes again

-- what passes lasts no longer than normal
pub lasts_at_most : (net : PricedNetwork) (known : Known) (code : List ℕ) (duration : ℕ) (flows : List ℕ) →
    first_failing (conditions net known (Act code duration flows)) ≡ None → duration ≤ normal_of net.terms known.acts
lasts_at_most net known code duration flows none =
    let behind_code = (holds_first _ _ _ none).1 in
    let behind_room = (holds_first _ _ _ behind_code).1 in
    let lasts = (and_parts _ _ (holds_first _ _ _ behind_room).0).0 in
    omega (arith, eqb-true duration (lesser_of net.network net.terms known.time known.acts) lasts)

-- and no flow of it is above its rise
pub capacity_kept : (net : PricedNetwork) (known : Known) (code : List ℕ) (duration : ℕ) (flows : List ℕ) →
    first_failing (conditions net known (Act code duration flows)) ≡ None → is_within_capacity net known.acts flows ≡ true
capacity_kept net known code duration flows none =
    let a = known.acts in
    let seg = frame known in
    let behind_code = (holds_first (has_act_code net a code flows) _ 4 none).1 in
    let behind_room = (holds_first (has_room net seg 0 a && has_room net seg (span seg) a) _ 6 behind_code).1 in
    let behind_duration = (holds_first (has_duration net known a duration) _ 7 behind_room).1 in
    (holds_first (is_within_capacity net a flows) _ 8 behind_duration).0

pub again_passes : {net : PricedNetwork} {known : Known} {passed : Passed} (code : List ℕ) →
    has_act_code net known.acts code passed.flows ≡ true → ComesAgain net known passed → HasPassed net known.acts passed
    → first_failing (conditions net known (Act code passed.duration passed.flows)) ≡ None
again_passes {net} {known} {passed} code has_code again has =
    let a = known.acts in
    let seg = frame known in
    let arcs = net.network.arcs in
    let head = head_at arcs seg 0 a in
    let tail = tail_at arcs seg 0 a in
    let head_is : head ≡ known.time (to_of arcs a) = head_before arcs seg a in
    let tail_is : tail ≡ known.time (from_of arcs a) = tail_before arcs seg a in
    let within : IsGapWithin passed.low passed.high head tail = record {
      above = omega (arith, again.within.above);
      below = omega (arith, again.within.below);
    } in
    let room = still_room net seg a again.still (le-leb (tail + crash_of net.terms a) head (omega (arith, within.above, has.room))) in
    let slack = sym (still_slack net seg a passed.flows again.still) ∙ has.slack head tail within in
    let e : passed.duration ≡ lesser_of net.network net.terms known.time a = has.lasts (known.time (to_of arcs a)) (known.time (from_of arcs a)) again.within in
    let lasts : has_duration net known a passed.duration ≡ true = rw (eq-eqb passed.duration (lesser_of net.network net.terms known.time a) e, again.later) refl in
    rw (has_code, room, lasts, has.capacity, slack, again.long) refl

pub across_passes : {net : PricedNetwork} {known : Known} {passed : Passed} (code : List ℕ) →
    has_act_code net known.acts code passed.flows ≡ true → PassesAcross net known passed → HasPassed net known.acts passed
    → first_failing (conditions net known (Act code passed.duration passed.flows)) ≡ None
across_passes {net} {known} {passed} code has_code across has =
    let a = known.acts in
    let seg = frame known in
    let arcs = net.network.arcs in
    let at_upper : has_room net seg 0 a ≡ true = le-leb (tail_at arcs seg 0 a + crash_of net.terms a) (head_at arcs seg 0 a) (omega (arith, across.upper.above, has.room)) in
    let at_lower : has_room net seg (span seg) a ≡ true =
    le-leb (tail_at arcs seg (span seg) a + crash_of net.terms a) (head_at arcs seg (span seg) a) (omega (arith, across.lower.above, has.bare)) in
    let slack_upper : is_slack net seg 0 a passed.flows ≡ true = has.slack (head_at arcs seg 0 a) (tail_at arcs seg 0 a) across.upper in
    let slack_lower : is_slack net seg (span seg) a passed.flows ≡ true = has.fits (head_at arcs seg (span seg) a) (tail_at arcs seg (span seg) a) across.lower in
    let head_is : head_at arcs seg 0 a ≡ known.time (to_of arcs a) = head_before arcs seg a in
    let tail_is : tail_at arcs seg 0 a ≡ known.time (from_of arcs a) = tail_before arcs seg a in
    let within : IsGapWithin passed.low passed.high (known.time (to_of arcs a)) (known.time (from_of arcs a)) = record {
      above = omega (arith, across.upper.above, head_is, tail_is);
      below = omega (arith, across.upper.below, head_is, tail_is);
    } in
    let e : passed.duration ≡ lesser_of net.network net.terms known.time a = has.lasts (known.time (to_of arcs a)) (known.time (from_of arcs a)) within in
    let lasts : has_duration net known a passed.duration ≡ true = rw (eq-eqb passed.duration (lesser_of net.network net.terms known.time a) e, across.later) refl in
    rw (has_code, at_upper, at_lower, lasts, has.capacity, slack_upper, slack_lower, across.long) refl
