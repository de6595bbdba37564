-- How the greatest sum at one event follows from those at its neighbours.
use Rattle.std.proofs.Common.{◌≡◌, ◌≢◌, ℕ, ◌+◌, ◌*◌, ◌<◌, ◌≤◌, List, [], ◌∷◌, ◌++◌, length, slice_index, set, get_or-set_same}
use Rattle.std.proofs.Common.{get_or-set_other, length-set, ◌∙◌, refl, sym, ap, subst, ⊎_elim, below_more, arith}
use Rattle.std.proofs.Math.Nat.{mul-le-mul_right}
use Rattle.std.proofs.lemmas.Bool.{cases_eq}
use Rattle.pc_model.specs.Walk.{from_of, to_of, IsWalk, walk_sum, IsSumOfWalk}
use Rattle.pc_model.specs.Network.{Network, IsInRange, IsSound, IsOrder, IsEarly}
use Rattle.pc_model.proofs.Walks.WalkLaws.{IsWalk-push, walk_sum-push, last_of_walk, walk_sum-bound}
use Rattle.pc_model.proofs.Walks.OrderLaws.{walk_is_short, stands_in_order, same_place}
use Rattle.pc_model.specs.declared.limits.TheConstants.{MAX_EVENTS}
use Rattle.pc_times.specs.declared.TheConstants.{MAX_ACTIVITY_LENGTH}
use Rattle.pc_times.specs.Times.{IsTail, AreLengths, AreEarly}
use Rattle.pc_times.specs.inside.Times.{AreTails}
use Rattle.pc_times.specs.inside.Passes.{HasBoundedWalks, AreEarlyBefore, AreTailsAfter}
use Rattle.pc_times.proofs.GreatestLaws.{IsGreatestWhere}

-- n is the latest time at which an activity that enters event e brings it, or 0 where none enters
abbrev pub IsArrival : Network → List ℕ → List ℕ → ℕ → ℕ → Type 0
IsArrival net lengths times e = IsGreatestWhere (λ a. to_of net.arcs a ≡ e) (length net.arcs) (λ a. slice_index times (from_of net.arcs a) + slice_index lengths a)

-- the latest arrival at an event is its time, where the times of the events before it are right
pub early_from_arrival : (net : Network) → IsSound net → (lengths times : List ℕ) (e n : ℕ) → e < net.events →
    ((a : ℕ) → a < length net.arcs → to_of net.arcs a ≡ e →
    IsEarly net lengths (from_of net.arcs a) (slice_index times (from_of net.arcs a))) → IsArrival net lengths times e n →
    IsEarly net lengths e n
early_from_arrival net sound lengths times e n below before arrival = record {
  attained = ⊎_elim by_activity at_start arrival.attained;
  bound = λ m (walk, walked, sums). bound m walk walked sums;
}
  where
    by_activity : (a : ℕ) × (a < length net.arcs) × (to_of net.arcs a ≡ e) × (slice_index times (from_of net.arcs a) + slice_index lengths a ≡ n) → IsSumOfWalk net.arcs lengths net.start e n
    by_activity (a, in_arcs, ends, is) =
        let (walk, walked, sums) = (before a in_arcs ends).attained in (
          walk ++ a ∷ [],
          subst (λ (x : ℕ). IsWalk net.arcs net.start (walk ++ a ∷ []) x) ends
              (IsWalk-push net.arcs net.start _ walk a walked in_arcs refl),
          omega (arith, walk_sum-push lengths walk a),
        )

    at_start : (n ≡ 0) × ((a : ℕ) → a < length net.arcs → to_of net.arcs a ≡ e → ⊥) → IsSumOfWalk net.arcs lengths net.start e n
    at_start (zero_is, alone) =
        let (walk, walked) = sound.reached e below in
        ⊎_elim (λ (empty, same). ([], same, sym zero_is))
        (λ (front, a, is, in_arcs, front_walked, ends). absurd (alone a in_arcs ends))
        (last_of_walk net.arcs net.start e walk walked)

    bound : (m : ℕ) (walk : List ℕ) → IsWalk net.arcs net.start walk e → walk_sum lengths walk ≡ m → m ≤ n
    bound m walk walked sums =
        ⊎_elim (λ (empty, same). omega (arith, ap (walk_sum lengths) empty))
        (λ (front, a, is, in_arcs, front_walked, ends). omega (
          arith,
          ap (walk_sum lengths) is,
          walk_sum-push lengths front a,
          arrival.above a in_arcs ends,
          (before a in_arcs ends).bound (walk_sum lengths front) (front, front_walked, refl),
        ))
        (last_of_walk net.arcs net.start e walk walked)

-- n is the greatest length to which an activity that leaves event e leads, or 0 where none leaves
abbrev pub IsDeparture : Network → List ℕ → List ℕ → ℕ → ℕ → Type 0
IsDeparture net lengths tails e = IsGreatestWhere (λ a. from_of net.arcs a ≡ e) (length net.arcs) (λ a. slice_index lengths a + slice_index tails (to_of net.arcs a))

-- the longest departure from an event is its tail, where the tails of the events after it are right
pub tail_from_departure : (net : Network) → IsSound net → (lengths tails : List ℕ) (e n : ℕ) → e < net.events →
    ((a : ℕ) → a < length net.arcs → from_of net.arcs a ≡ e →
    IsTail net lengths (to_of net.arcs a) (slice_index tails (to_of net.arcs a))) → IsDeparture net lengths tails e n →
    IsTail net lengths e n
tail_from_departure net sound lengths tails e n below after departure = record {
  attained = ⊎_elim by_activity at_end departure.attained;
  bound = λ m (walk, walked, sums). bound m walk walked sums;
}
  where
    by_activity : (a : ℕ) × (a < length net.arcs) × (from_of net.arcs a ≡ e) × (slice_index lengths a + slice_index tails (to_of net.arcs a) ≡ n) → IsSumOfWalk net.arcs lengths e net.end n
    by_activity (a, in_arcs, begins, is) =
        let (walk, walked, sums) = (after a in_arcs begins).attained in
        (a ∷ walk, (in_arcs, begins, walked), omega arith)

    at_end : (n ≡ 0) × ((a : ℕ) → a < length net.arcs → from_of net.arcs a ≡ e → ⊥) → IsSumOfWalk net.arcs lengths e net.end n
    at_end (zero_is, alone) = let (walk, walked) = sound.reaches e below in empty walk walked
      where
        empty : (walk : List ℕ) → IsWalk net.arcs e walk net.end → IsSumOfWalk net.arcs lengths e net.end n
        empty [] walked = ([], walked, sym zero_is)
        empty (a ∷ walk) walked = absurd (alone a walked.0 walked.1)

    bound : (m : ℕ) (walk : List ℕ) → IsWalk net.arcs e walk net.end → walk_sum lengths walk ≡ m → m ≤ n
    bound m [] walked sums = omega arith
    bound m (a ∷ walk) walked sums =
        omega (arith, departure.above a walked.0 walked.1, (after a walked.0 walked.1).bound (walk_sum lengths walk) (walk, walked.2, refl))

-- where no activity is longer than a limit, no sum over a walk to an event is above the limit for each event
pub walk_sum_fits : (net : Network) (order : List ℕ) → IsOrder net order → (lengths : List ℕ) (limit : ℕ) →
    ((a : ℕ) → a < length net.arcs → slice_index lengths a ≤ limit) → (e f n : ℕ) → f < net.events → IsSumOfWalk net.arcs lengths e f n →
    n ≤ net.events * limit
walk_sum_fits net order ordered lengths limit small e f n below (walk, walked, sums) =
    omega (arith, walk_sum-bound net.arcs lengths limit small e f walk walked, mul-le-mul_right limit (shorter walk walked))
  where
    shorter : (walk : List ℕ) → IsWalk net.arcs e walk f → length walk ≤ net.events
    shorter walk walked = omega (arith, walk_is_short net order ordered e f walk walked below)

-- what the passes need of a network, from its order and the lengths
pub has_bounded_walks : (net : Network) (order lengths : List ℕ) → IsInRange net → IsSound net → IsOrder net order → net.events ≤ MAX_EVENTS → AreLengths net lengths → HasBoundedWalks net lengths
has_bounded_walks net order lengths ranged sound ordered few lengths_of = record {
  ranged = ranged;
  sound = sound;
  few = few;
  short = λ e f walk below walked. walk_is_short net order ordered e f walk walked below;
  fits = walk_sum_fits net order ordered lengths MAX_ACTIVITY_LENGTH lengths_of.small;
}

-- the times of the first k events of the order are the greatest sums to them
pub record AreEarlyTo (net : Network) (lengths times order : List ℕ) (k : ℕ) : Type 0 where
  pub one_each : length times ≡ net.events
  pub each : (j : ℕ) → j < k → IsEarly net lengths (slice_index order j) (slice_index times (slice_index order j))

-- the next event in the order has all it needs before it
pub early_before : (net : Network) (lengths times order : List ℕ) (k : ℕ) → IsOrder net order → AreEarlyTo net lengths times order k →
    k < length order → AreEarlyBefore net lengths times (slice_index order k)
early_before net lengths times order k ordered so_far in_order = record {
  in_range = ordered.part.range k in_order;
  one_each = so_far.one_each;
  each = λ a in_arcs ends. let (j, lower, at) = ordered.part.before k a in_order in_arcs ends in
      subst (λ (e : ℕ). IsEarly net lengths e (slice_index times e)) at (so_far.each j lower);
}

-- with its time the pass is one event further
pub early_more : (net : Network) (lengths times order : List ℕ) (k n : ℕ) → IsOrder net order → AreEarlyTo net lengths times order k →
    k < length order → IsEarly net lengths (slice_index order k) n →
    AreEarlyTo net lengths (set times (slice_index order k) n) order (k + 1)
early_more net lengths times order k n ordered so_far in_order early = record {
  one_each = length-set times (slice_index order k) n ∙ so_far.one_each;
  each = below_more (λ j. IsEarly net lengths (slice_index order j) (slice_index (set times (slice_index order k) n) (slice_index order j))) k
      (λ j lower. subst (λ (m : ℕ). IsEarly net lengths (slice_index order j) m)
      (sym (get_or-set_other times (slice_index order k) (slice_index order j) n 0 (ordered.part.once j k lower in_order)))
      (so_far.each j lower))
      (subst (λ (m : ℕ). IsEarly net lengths (slice_index order k) m) (sym (get_or-set_same times (slice_index order k) n 0 (omega (arith, so_far.one_each, ordered.part.range k in_order)))) early);
}

-- after the last event all times are right
pub early_all : (net : Network) (lengths times order : List ℕ) (k : ℕ) → IsOrder net order → AreEarlyTo net lengths times order k → length order ≤ k → AreEarly net lengths times
early_all net lengths times order k ordered so_far all = record {
  one_each = so_far.one_each;
  each = λ e below. let (j, in_order, at) = stands_in_order net order ordered e below in
      subst (λ (x : ℕ). IsEarly net lengths x (slice_index times x)) at (so_far.each j (omega arith));
}

-- the tails of the last k events of the order are the greatest sums from them
pub record AreTailsFrom (net : Network) (lengths tails order : List ℕ) (k : ℕ) : Type 0 where
  pub one_each : length tails ≡ net.events
  pub each : (j : ℕ) → j < length order → length order ≤ j + k → IsTail net lengths (slice_index order j) (slice_index tails (slice_index order j))

-- before the first step no tail is said to be right
pub tails_none : (net : Network) (lengths tails order : List ℕ) → length tails ≡ net.events → AreTailsFrom net lengths tails order 0
tails_none net lengths tails order one_each = record {
  one_each = one_each;
  each = λ j in_order late. absurd (omega arith);
}

-- the event before them in the order has all it needs after it
pub tails_after : (net : Network) (lengths tails order : List ℕ) (i k : ℕ) → IsInRange net → IsOrder net order →
    AreTailsFrom net lengths tails order k → i < length order → i + k + 1 ≡ length order →
    AreTailsAfter net lengths tails (slice_index order i)
tails_after net lengths tails order i k ranged ordered so_far in_order place = record {
  in_range = ordered.part.range i in_order;
  one_each = so_far.one_each;
  each = λ a in_arcs begins. after a in_arcs begins;
}
  where
    after : (a : ℕ) → a < length net.arcs → from_of net.arcs a ≡ slice_index order i → IsTail net lengths (to_of net.arcs a) (slice_index tails (to_of net.arcs a))
    after a in_arcs begins =
        let (j, j_in, at) = stands_in_order net order ordered (to_of net.arcs a) (ranged.to_in a in_arcs) in
        let (h, lower, h_at) = ordered.part.before j a j_in in_arcs (sym at) in
        let same : h ≡ i = same_place net order ordered.part h i (omega arith) in_order (h_at ∙ begins) in
        subst (λ (x : ℕ). IsTail net lengths x (slice_index tails x)) at (so_far.each j j_in (omega arith))

-- with its tail n the pass is one event further
pub tails_more : (net : Network) (lengths tails order : List ℕ) (i k e : ℕ) {h n : ℕ} → IsOrder net order →
    AreTailsFrom net lengths tails order k → i < length order → i + k + 1 ≡ length order → slice_index order i ≡ e → h ≡ k + 1 →
    IsTail net lengths e n → AreTailsFrom net lengths (set tails e n) order h
tails_more net lengths tails order i k e {h = h} {n = n} ordered so_far in_order place at more tail = record {
  one_each = length-set tails e n ∙ so_far.one_each;
  each = λ j j_in late. ⊎_elim (λ same. same_one j same) (λ other. other_one j j_in late other) (cases_eq j i);
}
  where
    same_one : (j : ℕ) → j ≡ i → IsTail net lengths (slice_index order j) (slice_index (set tails e n) (slice_index order j))
    same_one j same =
        subst (λ (x : ℕ). IsTail net lengths x (slice_index (set tails e n) x)) (sym (ap (slice_index order) same ∙ at))
        (subst (λ (m : ℕ). IsTail net lengths e m) (sym (get_or-set_same tails e n 0 (omega (arith, so_far.one_each, at, ordered.part.range i in_order)))) tail)

    other_one : (j : ℕ) → j < length order → length order ≤ j + h → j ≢ i → IsTail net lengths (slice_index order j) (slice_index (set tails e n) (slice_index order j))
    other_one j j_in late other =
        subst (λ (m : ℕ). IsTail net lengths (slice_index order j) m)
        (sym (get_or-set_other tails e (slice_index order j) n 0
        (λ same. other (same_place net order ordered.part j i j_in in_order (same ∙ sym at)))))
        (so_far.each j j_in (omega arith))

-- after the first event all tails are right
pub tails_all : (net : Network) (lengths tails order : List ℕ) (k : ℕ) → IsOrder net order → AreTailsFrom net lengths tails order k → length order ≤ k → AreTails net lengths tails
tails_all net lengths tails order k ordered so_far all = record {
  one_each = so_far.one_each;
  each = λ e below. let (j, in_order, at) = stands_in_order net order ordered e below in
      subst (λ (x : ℕ). IsTail net lengths x (slice_index tails x)) at (so_far.each j in_order (omega arith));
}
