-- How a forecast is made in the order of the events, and why there is one.
use Rattle.std.proofs.Common.{◌≡◌, ◌≢◌, ℕ, zero, suc, ◌+◌, ◌*◌, ◌<◌, ◌≤◌, ◌^◌, ◌==◌, inl, inr, ⊎_elim, List, length, slice_index, set, get_or-set_same}
use Rattle.std.proofs.Common.{get_or-set_other, length-set, refl, sym, ap, ◌∙◌, subst, Bool, true, false, cond, max, below_more, arith}
use Rattle.std.proofs.Math.Nat.{mul-le-mul_right}
use Rattle.std.proofs.lemmas.Bool.{cases_eq, cases_lt}
use Rattle.std.proofs.lemmas.List.{ext_get_or, get_or_past}
use Rattle.pc_model.specs.declared.limits.TheConstants.{MAX_EVENTS}
use Rattle.pc_model.specs.Walk.{from_of, to_of}
use Rattle.pc_model.specs.Network.{Network, IsInRange, IsSound, IsOrder, IsEntered}
use Rattle.pc_model.proofs.Walks.WalkLaws.{last_of_walk, greatest_unique}
use Rattle.pc_model.proofs.Walks.OrderLaws.{stands_in_order}
use Rattle.pc_times.specs.declared.TheConstants.{MAX_ACTIVITY_LENGTH, MAX_TIME}
use Rattle.pc_times.specs.declared.forecasts.ActState.{ActState}
use Rattle.pc_times.specs.declared.forecasts.ActState.TheVariants.{Waiting, Started, Finished}
use Rattle.pc_times.specs.Times.{AreLengths}
use Rattle.pc_times.specs.Forecast.{Expected, state_at, finish_of, IsFinishAt, IsForecast, IsSmallState, AreStates}
use Rattle.pc_times.specs.inside.Forecast.{finish_at, IsLastAt, AreFinishes, AreLast}
use Rattle.pc_times.proofs.GreatestLaws.{IsGreatestWhere}

-- an event that is not the start is entered
entered : (net : Network) → IsSound net → (e : ℕ) → e < net.events → e ≢ net.start → IsEntered net e
entered net sound e below not_start =
    let (walk, walked) = sound.reached e below in
    ⊎_elim (λ (empty, same). absurd (not_start (sym same)))
    (λ (front, a, is, in_arcs, front_walked, ends). (a, in_arcs, ends))
    (last_of_walk net.arcs net.start e walk walked)

-- the greatest value of g for the activities that end at an event
pub last_of_greatest : (net : Network) (g : ℕ → ℕ) (e n : ℕ) → IsSound net → e < net.events →
    IsGreatestWhere (λ a. to_of net.arcs a ≡ e) (length net.arcs) g n → IsLastAt net g e n
last_of_greatest net g e n sound below all = record {
  above = all.above;
  met = λ not_start. elim all.attained [
    | inl (a, in_arcs, ends, at) ↦ (a, (in_arcs, ends, at))
    | inr none ↦ let (a, in_arcs, ends) = entered net sound e below not_start in absurd (none.1 a in_arcs ends)
  ];
  none = λ start. elim all.attained [
    | inl (a, in_arcs, ends, at) ↦ absurd (sound.not_entered (a, in_arcs, ends ∙ start))
    | inr none ↦ none.0
  ];
}

-- the first k events of the order have their times
pub record AreLastTo (net : Network) (lengths : List ℕ) (states : List ActState) (as_of : ℕ) (times order : List ℕ) (k : ℕ) : Type 0 where
  pub one_each : length times ≡ net.events
  pub each : (j : ℕ) → j < k → IsLastAt net (finish_at net lengths states as_of times) (slice_index order j) (slice_index times (slice_index order j))
  pub small : (e : ℕ) → slice_index times e ≤ 2 ^ 40 + k * MAX_ACTIVITY_LENGTH

-- a finish is later than the times before it by no more than the greatest length
finish_bound : (state : ActState) (len as_of begin most : ℕ) → IsSmallState state → len ≤ MAX_ACTIVITY_LENGTH → as_of < 2 ^ 40 → 2 ^ 40 ≤ most →
    begin ≤ most → finish_of state len as_of begin ≤ most + MAX_ACTIVITY_LENGTH
finish_bound (Finished at) len as_of begin most state short early large below = omega (arith, state)
finish_bound (Started at) len as_of begin most state short early large below = omega (arith, state)
finish_bound Waiting len as_of begin most state short early large below = by_test (len == 0)
  where
    by_test : (b : Bool) → cond b begin (max begin as_of + len) ≤ most + MAX_ACTIVITY_LENGTH
    by_test true = omega arith
    by_test false = omega arith

pub finish_at-bound : (net : Network) (lengths : List ℕ) (states : List ActState) (as_of most : ℕ) (times : List ℕ) (a : ℕ) →
    AreLengths net lengths → AreStates net states → as_of < 2 ^ 40 → 2 ^ 40 ≤ most → ((e : ℕ) → slice_index times e ≤ most) →
    a < length net.arcs → finish_at net lengths states as_of times a ≤ most + MAX_ACTIVITY_LENGTH
finish_at-bound net lengths states as_of most times a fit known early large small in_arcs =
    finish_bound (state_at states a) (slice_index lengths a) as_of (slice_index times (from_of net.arcs a)) most (known.small a in_arcs) (fit.small a in_arcs) early large (small (from_of net.arcs a))

-- times that agree where an activity begins give it the same finish
finish_same : (net : Network) (lengths : List ℕ) (states : List ActState) (as_of : ℕ) (times other : List ℕ) (a : ℕ) →
    slice_index times (from_of net.arcs a) ≡ slice_index other (from_of net.arcs a) →
    finish_at net lengths states as_of times a ≡ finish_at net lengths states as_of other a
finish_same net lengths states as_of times other a same =
    ap (λ (n : ℕ). finish_of (state_at states a) (slice_index lengths a) as_of n) same

-- an event keeps its time where the finishes at it stay
last_same : (net : Network) (g h : ℕ → ℕ) (e n : ℕ) → ((a : ℕ) → a < length net.arcs → to_of net.arcs a ≡ e → g a ≡ h a) → IsLastAt net g e n → IsLastAt net h e n
last_same net g h e n same last = record {
  above = λ a in_arcs ends. omega (arith, last.above a in_arcs ends, same a in_arcs ends);
  met = λ not_start. let (a, (in_arcs, ends, at)) = last.met not_start in (a, (in_arcs, ends, sym (same a in_arcs ends) ∙ at));
  none = last.none;
}

-- one event more
pub last_step : (net : Network) (lengths : List ℕ) (states : List ActState) (as_of : ℕ) (times order : List ℕ) (k n : ℕ) →
    IsOrder net order → AreLengths net lengths → AreStates net states → as_of < 2 ^ 40 → AreLastTo net lengths states as_of times order k →
    k < length order → IsLastAt net (finish_at net lengths states as_of times) (slice_index order k) n →
    AreLastTo net lengths states as_of (set times (slice_index order k) n) order (k + 1)
last_step net lengths states as_of times order k n ordered fit known early so_far in_order last = record {
  one_each = length-set times event n ∙ so_far.one_each;
  each = below_more _ k
      (λ j lower. rw (get_or-set_other times event (slice_index order j) n 0 (ordered.part.once j k lower in_order))
      (last_same net _ _ (slice_index order j) (slice_index times (slice_index order j))
      (λ a in_arcs ends. keeps j (omega arith) a in_arcs ends) (so_far.each j lower)))
      (rw (get_or-set_same times event n 0 (omega (arith, so_far.one_each, ordered.part.range k in_order))) (last_same net _ _ event n (λ a in_arcs ends. keeps k (omega arith) a in_arcs ends) last));
  small = λ e. ⊎_elim (λ same. omega (
    arith,
    ap (slice_index (set times event n)) same,
    get_or-set_same times event n 0 (omega (arith, so_far.one_each, ordered.part.range k in_order)),
    bound,
  ))
      (λ apart. omega (arith, get_or-set_other times event e n 0 apart, so_far.small e)) (cases_eq e event);
}
  where
    event : ℕ
    event = slice_index order k

    -- no activity that ends at one of these events begins at the last of them
    keeps : (j : ℕ) → j ≤ k → (a : ℕ) → a < length net.arcs → to_of net.arcs a ≡ slice_index order j →
        finish_at net lengths states as_of times a ≡ finish_at net lengths states as_of (set times event n) a
    keeps j le a in_arcs ends =
        let (i, lower, at) = ordered.part.before j a (omega arith) in_arcs ends in
        let apart : from_of net.arcs a ≢ event = λ same. ordered.part.once i k (omega arith) in_order (at ∙ same) in
        finish_same net lengths states as_of times (set times event n) a (sym (get_or-set_other times event (from_of net.arcs a) n 0 apart))

    bound : n ≤ 2 ^ 40 + (k + 1) * MAX_ACTIVITY_LENGTH
    bound =
        ⊎_elim (λ start. omega (arith, last.none start))
        (λ not_start. let (a, (in_arcs, ends, at)) = last.met not_start in
        omega (
          arith,
          finish_at-bound net lengths states as_of (2 ^ 40 + k * MAX_ACTIVITY_LENGTH) times a fit known early
              (omega arith) so_far.small in_arcs,
        ))
        (cases_eq event net.start)

-- the times so far are no later than that
pub small_so_far : (net : Network) (lengths : List ℕ) (states : List ActState) (as_of : ℕ) (times order : List ℕ) (k : ℕ) →
    net.events ≤ MAX_EVENTS → k ≤ net.events → AreLastTo net lengths states as_of times order k → (e : ℕ) →
    slice_index times e ≤ 2 ^ 40 + MAX_TIME
small_so_far net lengths states as_of times order k few le so_far e =
    let least : k ≤ MAX_EVENTS = omega arith in
    omega (arith, so_far.small e, mul-le-mul_right MAX_ACTIVITY_LENGTH least)

-- all events
pub last_times : (net : Network) (lengths : List ℕ) (states : List ActState) (as_of : ℕ) (times order : List ℕ) (k : ℕ) →
    net.events ≤ MAX_EVENTS → IsOrder net order → k ≡ length order → AreLastTo net lengths states as_of times order k →
    AreLast net lengths states as_of times
last_times net lengths states as_of times order k few ordered all so_far = record {
  one_each = so_far.one_each;
  each = λ e below. let (j, in_order, at) = stands_in_order net order ordered e below in
      subst (λ (x : ℕ). IsLastAt net (finish_at net lengths states as_of times) x (slice_index times x)) at (so_far.each j (omega arith));
  small = small_so_far net lengths states as_of times order k few (omega (arith, ordered.whole)) so_far;
}

-- and all finishes
pub small_finishes : (net : Network) (lengths : List ℕ) (states : List ActState) (as_of : ℕ) (times finishes : List ℕ) →
    AreLengths net lengths → AreStates net states → as_of < 2 ^ 40 → AreLast net lengths states as_of times →
    AreFinishes net lengths states as_of times (length net.arcs) finishes → (a : ℕ) → slice_index finishes a < 2 ^ 41
small_finishes net lengths states as_of times finishes fit known early last ends a =
    ⊎_elim (λ in_arcs. omega (arith, ends.each a in_arcs, finish_at-bound net lengths states as_of (2 ^ 40 + MAX_TIME) times a fit known early (omega arith) last.small in_arcs))
    (λ past. omega (arith, get_or_past finishes a 0 (omega (arith, ends.one_each))))
    (cases_lt a (length net.arcs))

-- the times and finishes are a forecast
pub forecast_made : (net : Network) (lengths : List ℕ) (states : List ActState) (as_of : ℕ) (times finishes : List ℕ) → IsInRange net →
    AreLast net lengths states as_of times → AreFinishes net lengths states as_of times (length net.arcs) finishes →
    IsForecast net lengths states as_of (record { times = times; finishes = finishes })
forecast_made net lengths states as_of times finishes ranged last ends = record {
  one_each = last.one_each;
  finish_each = ends.one_each;
  start = (last.each net.start ranged.start_in).none refl;
  event = λ e below not_start. record {
    attained = let (a, (in_arcs, at_e, is)) = (last.each e below).met not_start in (a, (in_arcs, at_e, ends.each a in_arcs ∙ is));
    bound = λ m (a, (in_arcs, at_e, is)). omega (arith, (last.each e below).above a in_arcs at_e, ends.each a in_arcs);
  };
  activity = ends.each;
}

-- two forecasts have the same times
module _ (net : Network) (lengths : List ℕ) (states : List ActState) (as_of : ℕ) (order : List ℕ) (ordered : IsOrder net order)
    (one other : Expected) (first : IsForecast net lengths states as_of one) (second : IsForecast net lengths states as_of other) where
  -- the two agree on the first k events
  AgreeTo : ℕ → Type 0
  AgreeTo k = (j : ℕ) → j < k → slice_index one.times (slice_index order j) ≡ slice_index other.times (slice_index order j)

  finish_is : (k : ℕ) → k < length order → AgreeTo k → (a : ℕ) → a < length net.arcs → to_of net.arcs a ≡ slice_index order k → slice_index one.finishes a ≡ slice_index other.finishes a
  unfolding AgreeTo
  finish_is k in_order agree a in_arcs ends =
      let (i, lower, at) = ordered.part.before k a in_order in_arcs ends in
      let begins : slice_index one.times (from_of net.arcs a)
      ≡ slice_index other.times (from_of net.arcs a) =
      subst (λ (n : ℕ). slice_index one.times n ≡ slice_index other.times n) at (agree i lower) in
      first.activity a in_arcs ∙ (finish_same net lengths states as_of one.times other.times a begins ∙ sym (second.activity a in_arcs))

  same_next : (k : ℕ) → k < length order → AgreeTo k → slice_index one.times (slice_index order k) ≡ slice_index other.times (slice_index order k)
  same_next k in_order agree =
      ⊎_elim (λ start. ap (slice_index one.times) start ∙ (first.start ∙ (sym second.start ∙ ap (slice_index other.times) (sym start))))
      (λ not_start. let below = ordered.part.range k in_order in
      greatest_unique (IsFinishAt net other.finishes event) (slice_index one.times event) (slice_index other.times event)
      (let great = first.event event below not_start in record {
        attained = let (a, (in_arcs, ends, is)) = great.attained in (a, (in_arcs, ends, sym (finish_is k in_order agree a in_arcs ends) ∙ is));
        bound = λ m (a, (in_arcs, ends, is)). great.bound m (a, (in_arcs, ends, finish_is k in_order agree a in_arcs ends ∙ is));
      })
      (second.event event below not_start))
      (cases_eq event net.start)
    where
      event : ℕ
      event = slice_index order k

  same_to : (k : ℕ) → k ≤ length order → AgreeTo k
  unfolding AgreeTo
  same_to zero le j lt = absurd (omega arith)
  same_to (suc k) le j lt =
      ⊎_elim (λ same. subst (λ (n : ℕ). slice_index one.times (slice_index order n) ≡ slice_index other.times (slice_index order n))
      (sym same) (same_next k (omega arith) (same_to k (omega arith)))) (λ apart. same_to k (omega arith) j (omega arith))
      (cases_eq j k)

  same_times : one.times ≡ other.times
  unfolding AgreeTo
  same_times =
      ext_get_or 0 one.times other.times (first.one_each ∙ sym second.one_each)
      (λ e below. let (j, in_order, at) = stands_in_order net order ordered e (omega (arith, first.one_each)) in
      subst (λ (n : ℕ). slice_index one.times n ≡ slice_index other.times n) at (same_to (length order) (omega arith) j in_order))

  same_finishes : one.finishes ≡ other.finishes
  same_finishes =
      ext_get_or 0 one.finishes other.finishes (first.finish_each ∙ sym second.finish_each)
      (λ a below. let in_arcs : a < length net.arcs = omega (arith, first.finish_each) in
      first.activity a in_arcs ∙ (finish_same net lengths states as_of one.times other.times a
      (ap (λ (ts : List ℕ). slice_index ts (from_of net.arcs a)) same_times) ∙ sym (second.activity a in_arcs)))

  pub forecast_only : one ≡ other
  forecast_only =
      let make : List ℕ → List ℕ → Expected = λ ts fs. record { times = ts; finishes = fs } in
      ap (λ (ts : List ℕ). make ts one.finishes) same_times ∙ ap (λ (fs : List ℕ). make other.times fs) same_finishes
