-- Where the events have an order, each has a greatest sum over the walks from the start.
use Rattle.std.proofs.Common.{◌≡◌, ◌≢◌, ◌≤◌, ◌<◌, ◌+◌, ◌⊎◌, inl, inr, ⊎_elim, ℕ, zero, suc, List, [], ◌∷◌, ◌++◌, length, slice_index, arith, refl, sym, ◌∙◌, subst, ap}
use Rattle.std.proofs.lemmas.Bool.{cases_eq, cases_lt}
use Rattle.pc_model.specs.Greatest.{StandsBelow}
use Rattle.pc_model.specs.Walk.{from_of, to_of, IsWalk, walk_sum, IsSumOfWalk}
use Rattle.pc_model.specs.Network.{Network, IsInRange, IsSound, IsOrder, IsEarly}
use Rattle.pc_model.proofs.Walks.WalkLaws.{IsWalk-push, walk_sum-push, last_of_walk, greatest_unique}
use Rattle.pc_model.proofs.Walks.OrderLaws.{stands_in_order}
use Rattle.pc_model.proofs.Walks.EarlyLaws.{closed_walk_is_empty}

module _ (net : Network) (lengths : List ℕ) (e : ℕ) (apart : e ≢ net.start) where
  -- the greatest sum over walks that end at e by one of the first n activities
  record IsBest (n best : ℕ) : Type 0 where
    pub attained : (a : ℕ) × (a < n) × (to_of net.arcs a ≡ e) × (s : ℕ) × IsEarly net lengths (from_of net.arcs a) s × (best ≡ s + slice_index lengths a)
    pub bound : (a s : ℕ) → a < n → to_of net.arcs a ≡ e → IsEarly net lengths (from_of net.arcs a) s → s + slice_index lengths a ≤ best

  -- there is one, or none of the first n activities ends at e
  best_of : ((a : ℕ) → a < length net.arcs → to_of net.arcs a ≡ e → (s : ℕ) × IsEarly net lengths (from_of net.arcs a) s)
      → (n : ℕ) → n ≤ length net.arcs → ((best : ℕ) × IsBest n best) ⊎ ((a : ℕ) → a < n → to_of net.arcs a ≡ e → ⊥)
  best_of before zero within = inr (λ a l at. omega arith)
  best_of before (suc n) within =
      ⊎_elim
      (λ ends.
      let (s, early) = before n (omega arith) ends in
      let here : ℕ = s + slice_index lengths n in
      inl (⊎_elim
      (λ (best, is). ⊎_elim
      (λ less. (
        here,
        record {
          attained = (n, omega arith, ends, s, early, refl);
          bound = λ a r l at known. ⊎_elim (λ earlier. omega (arith, is.bound a r earlier at known))
              (λ last. same_bound n a r s here (omega arith) (omega arith) early known) (cases_lt a n);
        },
      ))
      (λ more. (
        best,
        record {
          attained = (let (a, l, at, r, known, sum) = is.attained in (a, omega arith, at, r, known, sum));
          bound = λ a r l at known. ⊎_elim (λ earlier. is.bound a r earlier at known)
              (λ last. same_bound n a r s best (omega arith) (omega arith) early known) (cases_lt a n);
        },
      ))
      (cases_lt best here))
      (λ none. (
        here,
        record {
          attained = (n, omega arith, ends, s, early, refl);
          bound = λ a r l at known. ⊎_elim (λ earlier. absurd (none a earlier at))
              (λ last. same_bound n a r s here (omega arith) (omega arith) early known) (cases_lt a n);
        },
      ))
      (best_of before n (omega arith))))
      (λ other.
      ⊎_elim
      (λ (best, is). inl (
        best,
        record {
          attained = (let (a, l, at, r, known, sum) = is.attained in (a, omega arith, at, r, known, sum));
          bound = λ a r l at known. ⊎_elim (λ earlier. is.bound a r earlier at known)
              (λ last. absurd (other (ap (to_of net.arcs) (let same : n ≡ a = omega arith in same) ∙ at))) (cases_lt a n);
        },
      ))
      (λ none. inr (λ a l at. ⊎_elim (λ earlier. none a earlier at)
      (λ last. other (ap (to_of net.arcs) (let same : n ≡ a = omega arith in same) ∙ at)) (cases_lt a n)))
      (best_of before n (omega arith)))
      (cases_eq (to_of net.arcs n) e)
    where
      same_bound : (n a r s top : ℕ) → a ≡ n → s + slice_index lengths n ≤ top → IsEarly net lengths (from_of net.arcs n) s
          → IsEarly net lengths (from_of net.arcs a) r → r + slice_index lengths a ≤ top
      same_bound n a r s top is below early known =
          omega (
            arith,
            ap (slice_index lengths) is,
            greatest_unique (IsSumOfWalk net.arcs lengths net.start (from_of net.arcs n)) r s
                (subst (λ b. IsEarly net lengths (from_of net.arcs b) r) is known) early,
          )

  -- the greatest sum to e, once those to the beginnings of the activities that end there are known
  early_next : IsSound net → e < net.events → ((a : ℕ) → a < length net.arcs → to_of net.arcs a ≡ e → (s : ℕ) × IsEarly net lengths (from_of net.arcs a) s)
      → (n : ℕ) × IsEarly net lengths e n
  early_next sound inside before =
      ⊎_elim
      (λ (best, is). (
        best,
        record {
          attained = (let (a, l, at, s, early, sum) = is.attained in
              let (walk, walked, sums) = early.attained in (
                walk ++ a ∷ [],
                subst (IsWalk net.arcs net.start (walk ++ a ∷ [])) at (IsWalk-push net.arcs net.start _ walk a walked l refl),
                omega (arith, walk_sum-push lengths walk a),
              ));
          bound = λ m (walk, walked, sums). ⊎_elim
              (λ (empty, same). absurd (apart (sym same)))
              (λ (front, a, is_pushed, l, leads, at).
              let (s, early) = before a l at in
              omega (arith, ap (walk_sum lengths) is_pushed, walk_sum-push lengths front a, is.bound a s l at early, early.bound (walk_sum lengths front) (front, leads, refl)))
              (last_of_walk net.arcs net.start e walk walked);
        },
      ))
      (λ none.
      let (walk, walked) = sound.reached e inside in
      absurd (⊎_elim (λ (empty, same). apart (sym same)) (λ (front, a, is_pushed, l, leads, at). none a l at) (last_of_walk net.arcs net.start e walk walked)))
      (best_of before (length net.arcs) (omega arith))

module _ (net : Network) (lengths : List ℕ) (order : List ℕ) (range : IsInRange net) (sound : IsSound net) (ordered : IsOrder net order) where
  -- each of the first n events of the order has a greatest sum
  early_below : (n : ℕ) → n ≤ length order → (e : ℕ) → StandsBelow order n e → (s : ℕ) × IsEarly net lengths e s
  early_below zero within e (j, l, at) = absurd (omega arith)
  early_below (suc n) within e (j, l, at) =
      ⊎_elim (λ earlier. early_below n (omega arith) e (j, earlier, at))
      (λ here. ⊎_elim
      (λ start. (
        0,
        record {
          attained = ([], sym start, refl);
          bound = λ m (walk, walked, sums). omega (
            arith,
            sums,
            ap (walk_sum lengths) (closed_walk_is_empty net sound net.start walk (subst (IsWalk net.arcs net.start walk) start walked)),
          );
        },
      ))
      (λ apart. early_next net lengths e apart sound (subst (λ x. x < net.events) at (ordered.part.range j (omega arith)))
      (λ a inside ends. early_below n (omega arith) (from_of net.arcs a)
      (let (i, before, is) = ordered.part.before j a (omega arith) inside (ends ∙ sym at) in (i, omega arith, is))))
      (cases_eq e net.start))
      (cases_lt j n)

  -- each event has a greatest sum
  pub early_exists : (e : ℕ) → e < net.events → (s : ℕ) × IsEarly net lengths e s
  early_exists e inside = early_below (length order) (omega arith) e (stands_in_order net order ordered e inside)

  -- as a function of the event
  pub early_time : ℕ → ℕ
  early_time e = ⊎_elim (λ inside. (early_exists e inside).0) (λ outside. 0) (cases_lt e net.events)

  pub early_time_is_early : (e : ℕ) → e < net.events → IsEarly net lengths e (early_time e)
  unfolding early_time
  early_time_is_early e inside =
      elim (cases_lt e net.events) as (λ c. IsEarly net lengths e (⊎_elim (λ inside. (early_exists e inside).0) (λ outside. 0) c)) [
        | inl l ↦ (early_exists e l).1
        | inr outside ↦ absurd (omega arith)
      ]
