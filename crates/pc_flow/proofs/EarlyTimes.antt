-- How the greatest sum at one event follows from those at the events before it, and the pass over all events.
use Rattle.std.proofs.Common.{◌≡◌, ℕ, ◌+◌, ◌<◌, ◌≤◌, List, [], ◌∷◌, ◌++◌, length, slice_index, refl, sym, ap, subst, ◌⊎◌, inl, inr, max, below_more, arith}
use Rattle.std.proofs.Math.Nat.{mul-le-mul_right}
use Rattle.std.proofs.lemmas.Bool.{cases_lt}
use Rattle.pc_model.specs.declared.Term.{Term}
use Rattle.pc_model.specs.declared.limits.TheConstants.{MAX_EVENTS, MAX_DURATION}
use Rattle.pc_model.specs.inside.Greatest.{IsListed}
use Rattle.pc_model.specs.Walk.{from_of, to_of, IsWalk, walk_sum, IsSumOfWalk}
use Rattle.pc_model.specs.Network.{Network, IsInRange, IsSound, IsOrder, IsEntered, IsEarly}
use Rattle.pc_model.specs.Schedule.{AreTerms}
use Rattle.pc_model.proofs.Schedules.Durations.{normals-at, crashes-at, crash-normal}
use Rattle.pc_model.proofs.Walks.WalkLaws.{IsWalk-push, walk_sum-push, last_of_walk, walk_sum-bound}
use Rattle.pc_model.proofs.Walks.OrderLaws.{walk_is_short, stands_in_order}
use Rattle.pc_flow.specs.board.Sheets.{Sheet, kept_time}
use Rattle.pc_flow.specs.inside.board.Moves.{SetsTime}
use Rattle.pc_crash.specs.Terms.{AreWithinLimits}
use Rattle.pc_flow.specs.declared.early.Pace.{Pace}
use Rattle.pc_flow.specs.declared.early.Pace.TheVariants.{Crash, Normal}
use Rattle.pc_flow.specs.inside.Paces.{durations_at, HasSmallTimes, HasEarlyPredecessors}

module _ (net : Network) (lengths : List ℕ) (times : ℕ → ℕ) where
  -- what activity a brings to the event where it ends
  abbrev brought : ℕ → ℕ
  brought a = times (from_of net.arcs a) + slice_index lengths a

  -- n bounds what the first k of these activities give, and one of them gives it, or there is none and n is 0
  pub record IsArrivalOf (items : List ℕ) (k n : ℕ) : Type 0 where
    pub above : (j : ℕ) → j < k → brought (slice_index items j) ≤ n
    pub attained : ((j : ℕ) × (j < k) × (brought (slice_index items j) ≡ n)) ⊎ ((n ≡ 0) × (k ≡ 0))

  -- one of them more, which brings m: the greater of n and m
  pub arrival-more : (items : List ℕ) (k n m : ℕ) → IsArrivalOf items k n → m ≡ brought (slice_index items k) → IsArrivalOf items (k + 1) (max n m)
  arrival-more items k n m so_far is = record {
    above = below_more (λ j. brought (slice_index items j) ≤ max n m) k (λ j lower. omega (arith, so_far.above j lower)) (omega arith);
    attained = elim (cases_lt n m) [
      | inl less ↦ inl (k, omega arith, omega arith)
      | inr no_less ↦ elim so_far.attained [
        | inl at ↦ inl (at.0, omega (arith, at.1), omega (arith, at.2))
        | inr none ↦ inl (k, omega arith, omega (arith, none.0))
      ]
    ];
  }

  -- the latest arrival at an event is its time, where the times of the events before it are right
  module _ (sound : IsSound net) (e n : ℕ) (before : HasEarlyPredecessors net lengths times e) (items : List ℕ)
      (listed : IsListed (λ a. to_of net.arcs a ≡ e) (length net.arcs) items) (all : IsArrivalOf items (length items) n) where
    bounded : (a : ℕ) → a < length net.arcs → to_of net.arcs a ≡ e → brought a ≤ n
    bounded a known ends =
        let (j, lower, at) = listed.every a known ends in
        omega (arith, all.above j lower, ap (λ (x : ℕ). brought x) at)

    bound : (m : ℕ) → IsSumOfWalk net.arcs lengths net.start e m → m ≤ n
    bound m (walk, walked, sums) =
        elim (last_of_walk net.arcs net.start e walk walked) [
          | inl empty ↦ omega (arith, ap (walk_sum lengths) empty.0, sums)
          | inr last ↦ by_last last.0 last.1 last.2 last.3 last.4 last.5
        ]
      where
        by_last : (front : List ℕ) (a : ℕ) → walk ≡ front ++ a ∷ [] → a < length net.arcs → IsWalk net.arcs net.start front (from_of net.arcs a) → to_of net.arcs a ≡ e → m ≤ n
        by_last front a is known front_walked ends =
            omega (
              arith,
              sums,
              ap (walk_sum lengths) is,
              walk_sum-push lengths front a,
              bounded a known ends,
              (before.each a known ends).bound (walk_sum lengths front) (front, front_walked, refl),
            )

    by_activity : (a : ℕ) → a < length net.arcs → to_of net.arcs a ≡ e → brought a ≡ n → IsSumOfWalk net.arcs lengths net.start e n
    by_activity a known ends is =
        let (walk, walked, sums) = (before.each a known ends).attained in (
          walk ++ a ∷ [],
          subst (λ (x : ℕ). IsWalk net.arcs net.start (walk ++ a ∷ []) x) ends (IsWalk-push net.arcs net.start _ walk a walked known refl),
          omega (arith, walk_sum-push lengths walk a),
        )

    alone : n ≡ 0 → (IsEntered net e → ⊥) → IsSumOfWalk net.arcs lengths net.start e n
    alone none not_entered =
        let (walk, walked) = sound.reached e before.known in
        elim (last_of_walk net.arcs net.start e walk walked) [
          | inl empty ↦ ([], empty.1, sym none)
          | inr last ↦ absurd (not_entered (last.1, last.3, last.5))
        ]

    pub early-from_arrival : IsEarly net lengths e n
    early-from_arrival = record {
      attained = elim all.attained [
        | inl at ↦
            let (known, ends) = listed.each at.0 at.1 in
            by_activity (slice_index items at.0) known ends at.2
        | inr none ↦ alone none.0 (λ entered. let (j, lower, at) = listed.every entered.0 entered.1 entered.2 in omega (arith, lower, none.1))
      ];
      bound = bound;
    }

-- where no activity is longer than the greatest duration, no time is above the greatest length
pub small_times : (net : Network) (order lengths : List ℕ) → IsInRange net → IsSound net → IsOrder net order → net.events ≤ MAX_EVENTS
    → ((a : ℕ) → a < length net.arcs → slice_index lengths a ≤ MAX_DURATION) → HasSmallTimes net lengths
small_times net order lengths range sound ordered few short = record {
  range = range;
  sound = sound;
  short = short;
  fits = λ e n known early. let (walk, walked, sums) = early.attained in
      omega (
        arith,
        sums,
        walk_sum-bound net.arcs lengths MAX_DURATION short net.start e walk walked,
        mul-le-mul_right MAX_DURATION (let fewer : length walk ≤ MAX_EVENTS = omega (arith, walk_is_short net order ordered net.start e walk walked known) in fewer),
      );
}

-- the stored times of the first k events of the order are the greatest sums to them, and nothing else changed
pub record AreEarlyTo (net : Network) (lengths order : List ℕ) (s t : Sheet) (k : ℕ) : Type 0 where
  pub rest : t ≡ record s { time = t.time }
  pub each : (j : ℕ) → j < k → IsEarly net lengths (slice_index order j) (kept_time t (slice_index order j))

module _ (net : Network) (lengths order : List ℕ) (ordered : IsOrder net order) (s t : Sheet) where
  -- the next event in the order has all it needs before it
  pub early-before : (k : ℕ) → AreEarlyTo net lengths order s t k → k < length order → HasEarlyPredecessors net lengths (kept_time t) (slice_index order k)
  early-before k so_far inside = record {
    known = ordered.part.range k inside;
    each = λ a known ends. let (j, lower, at) = ordered.part.before k a inside known ends in
        subst (λ (e : ℕ). IsEarly net lengths e (kept_time t e)) at (so_far.each j lower);
  }

  -- with its time the pass is one event further
  pub early-more : (u : Sheet) (k n : ℕ) → AreEarlyTo net lengths order s t k → k < length order → IsEarly net lengths (slice_index order k) n
      → SetsTime t u (slice_index order k) n → AreEarlyTo net lengths order s u (k + 1)
  early-more u k n so_far inside early sets = record {
    rest = cc;
    each = below_more (λ j. IsEarly net lengths (slice_index order j) (kept_time u (slice_index order j))) k
        (λ j lower. subst (λ (m : ℕ). IsEarly net lengths (slice_index order j) m) (sym (sets.time_off (slice_index order j) (ordered.part.once j k lower inside))) (so_far.each j lower))
        (subst (λ (m : ℕ). IsEarly net lengths (slice_index order k) m) (sym sets.time_at) early);
  }

  -- after the last event all times are right
  pub early-all : (k : ℕ) → AreEarlyTo net lengths order s t k → length order ≤ k → (e : ℕ) → e < net.events → IsEarly net lengths e (kept_time t e)
  early-all k so_far all e known = let (j, inside, at) = stands_in_order net order ordered e known in
      subst (λ (x : ℕ). IsEarly net lengths x (kept_time t x)) at (so_far.each j (omega arith))

-- the durations of activities within the limits
pub durations-short : (net : Network) (terms : List Term) (pace : Pace) → AreTerms net terms → AreWithinLimits terms
    → (a : ℕ) → a < length net.arcs → slice_index (durations_at terms pace) a ≤ MAX_DURATION
durations-short net terms Crash fit limits a known =
    omega (
      arith,
      crashes-at terms a (omega (arith, fit.one_each)),
      crash-normal net terms fit a known,
      limits.short a (omega (arith, fit.one_each)),
    )
durations-short net terms Normal fit limits a known =
    omega (arith, normals-at terms a (omega (arith, fit.one_each)), limits.short a (omega (arith, fit.one_each)))
