-- Where the labels do not reach the end, some activity stops after a while: there is a fall.
use Rattle.std.proofs.Common.{◌≡◌, ◌≤◌, ◌<◌, ◌+◌, ◌-◌, ◌⊎◌, inl, inr, ⊎_elim, ℕ, zero, suc, List, [], ◌∷◌, length, Bool, true, false, not, ◌&&◌, arith, refl, sym, ◌∙◌, subst}
use Rattle.std.proofs.lemmas.Bool.{cases_lt, cases_eq, cases_Bool, false≢true, and_parts, and_from, lt-ltb, ltb-true}
use Rattle.std.specs.Prelude.{nat_lt}
use Rattle.pc_model.specs.declared.Term.{Term}
use Rattle.pc_model.specs.Walk.{from_of, to_of, IsWalk}
use Rattle.pc_model.specs.Network.{Network}
use Rattle.pc_model.specs.Schedule.{crash_of}
use Rattle.pc_model.specs.Cost.{Knees, IsPriced}
use Rattle.pc_laws.specs.Segment.{is_forward, is_backward}
use Rattle.pc_laws.specs.State.{State, IsOptimal, rests, IsStuck, CrashesAfter, FallsToKneeAfter, RisesToKneeAfter, StopsAfter, IsFall}

-- a number is the least of its kind
record IsLeast (P : ℕ → Type 0) (n : ℕ) : Type 0 where
  pub has : P n
  pub least : (k : ℕ) → P k → n ≤ k

-- there is a least number of a kind, or there is none
Searched : (ℕ → Type 0) → Type 0
Searched P = ((n : ℕ) × IsLeast P n) ⊎ ((k : ℕ) → P k → ⊥)

-- the least of two kinds
either : (P Q : ℕ → Type 0) → Searched P → Searched Q → Searched (λ n. P n ⊎ Q n)
unfolding Searched
either P Q p q =
    ⊎_elim
    (λ x. ⊎_elim
    (λ y. ⊎_elim
    (λ l. inl (x.0, record { has = inl x.1.has; least = λ k. ⊎_elim (x.1.least k) (λ h. omega (arith, y.1.least k h)) }))
    (λ g. inl (y.0, record { has = inr y.1.has; least = λ k. ⊎_elim (λ h. omega (arith, x.1.least k h)) (y.1.least k) }))
    (cases_lt x.0 y.0))
    (λ none. inl (x.0, record { has = inl x.1.has; least = λ k. ⊎_elim (x.1.least k) (λ h. absurd (none k h)) })) q)
    (λ none. ⊎_elim
    (λ y. inl (y.0, record { has = inr y.1.has; least = λ k. ⊎_elim (λ h. absurd (none k h)) (y.1.least k) }))
    (λ none_either. inr (λ k. ⊎_elim (none k) (none_either k))) q) p

-- on a walk from a resting to a moving event there is a forward activity
pub crosses : (net : Network) (moves : ℕ → Bool) (walk : List ℕ) (e f : ℕ) → IsWalk net.arcs e walk f → moves e ≡ false → moves f ≡ true
    → (a : ℕ) × (a < length net.arcs) × (is_forward net.arcs moves a ≡ true)
crosses net moves [] e f at rests moving = absurd (false≢true (sym rests ∙ subst (λ x. moves x ≡ true) (sym at) moving))
crosses net moves (a ∷ walk) e f (l, at, rest) rests moving =
    ⊎_elim
    (λ goes. (a, l, both (moves (from_of net.arcs a)) (moves (to_of net.arcs a)) (subst (λ x. moves x ≡ false) (sym at) rests) goes))
    (λ stays. crosses net moves walk (to_of net.arcs a) f rest stays moving)
    (cases_Bool (moves (to_of net.arcs a)))
  where
    both : (b c : Bool) → b ≡ false → c ≡ true → (not b && c) ≡ true
    both true c h k = absurd (false≢true (sym h))
    both false true h k = refl
    both false false h k = k

-- the least over the first n of a family of kinds
among : (P : ℕ → ℕ → Type 0) (n : ℕ) → ((k : ℕ) → k < n → Searched (P k)) → Searched (λ m. (k : ℕ) × (k < n) × P k m)
unfolding Searched
among P zero each = inr (λ m h. omega (arith, h.1))
among P (suc n) each =
    ⊎_elim
    (λ x. inl (
      x.0,
      record {
        has = ⊎_elim (λ earlier. (earlier.0, omega (arith, earlier.1), earlier.2)) (λ here. (n, omega arith, here)) x.1.has;
        least = λ m h. x.1.least m (found m h);
      },
    ))
    (λ none. inr (λ m h. none m (found m h)))
    (either (λ m. (k : ℕ) × (k < n) × P k m) (P n) (among P n (λ k l. each k (omega arith))) (each n (omega arith)))
  where
    found : (m : ℕ) → (k : ℕ) × (k < suc n) × P k m → ((k : ℕ) × (k < n) × P k m) ⊎ P n m
    found m (k, l, h) = ⊎_elim (λ is. inr (subst (λ b. P b m) is h)) (λ ne. inl (k, omega arith, h)) (cases_eq k n)

-- a kind that at most one number has: how far y is above x, where the guard holds and that is enough
one_number : (P : ℕ → Type 0) (guard : Bool) (x y enough : ℕ) → (guard ≡ true → x + enough ≤ y → P (y - x))
    → ((n : ℕ) → P n → (guard ≡ true) × (x + n ≡ y) × (enough ≤ n)) → Searched P
unfolding Searched
one_number P guard x y enough has says =
    ⊎_elim
    (λ is. ⊎_elim (λ under. inr (λ n p. (let (g, at, most) = says n p in omega arith)))
    (λ up. inl (y - x, record { has = has is up; least = λ n p. (let (g, at, most) = says n p in omega arith) })) (cases_lt y (x + enough)))
    (λ isnt. inr (λ n p. false≢true (sym isnt ∙ (says n p).0)))
    (cases_Bool guard)

module _ (net : Network) (terms : List Term) (knees : Knees) (st : State) (moves : ℕ → Bool) (optimal : IsOptimal net terms knees st) where
  crash_searched : (a : ℕ) → a < length net.arcs → Searched (CrashesAfter net terms st.time moves a)
  crash_searched a l =
      one_number (CrashesAfter net terms st.time moves a) (is_forward net.arcs moves a) (st.time (from_of net.arcs a) + crash_of terms a) (st.time (to_of net.arcs a)) 0
      (λ is up. record { forward = is; at_crash = omega arith }) (λ n p. (p.forward, p.at_crash, omega arith))

  -- whether the slope rises below the knee
  dear : ℕ → ℕ → Bool
  dear a k = nat_lt 0 (knees.rise a k)

  knee_searched : (a k : ℕ) → Searched (FallsToKneeAfter net knees st.time moves a k)
  unfolding dear
  knee_searched a k =
      one_number (FallsToKneeAfter net knees st.time moves a k) (is_forward net.arcs moves a && dear a k) (st.time (from_of net.arcs a) + knees.knee a k) (st.time (to_of net.arcs a)) 1
      (λ is up. let (forward, some) = and_parts (is_forward net.arcs moves a) (dear a k) is in
      record { forward = forward; dear = ltb-true 0 (knees.rise a k) some; above = omega arith; at_knee = omega arith })
      (λ n p. (and_from (is_forward net.arcs moves a) (dear a k) p.forward (lt-ltb 0 (knees.rise a k) p.dear), p.at_knee, p.above))

  back_searched : (a k : ℕ) → Searched (RisesToKneeAfter net knees st.time moves a k)
  unfolding dear
  back_searched a k =
      one_number (RisesToKneeAfter net knees st.time moves a k) (is_backward net.arcs moves a && dear a k) (st.time (to_of net.arcs a)) (st.time (from_of net.arcs a) + knees.knee a k) 1
      (λ is up. let (backward, some) = and_parts (is_backward net.arcs moves a) (dear a k) is in
      record { backward = backward; dear = ltb-true 0 (knees.rise a k) some; below = omega arith; at_knee = omega arith })
      (λ n p. (and_from (is_backward net.arcs moves a) (dear a k) p.backward (lt-ltb 0 (knees.rise a k) p.dear), sym p.at_knee, p.below))

  stops_searched : (a : ℕ) → a < length net.arcs → Searched (StopsAfter net terms knees st.time moves a)
  stops_searched a l =
      either (CrashesAfter net terms st.time moves a)
      (λ m. (k : ℕ) × (k < knees.count a) × (FallsToKneeAfter net knees st.time moves a k m ⊎ RisesToKneeAfter net knees st.time moves a k m))
      (crash_searched a l)
      (among (λ k m. FallsToKneeAfter net knees st.time moves a k m ⊎ RisesToKneeAfter net knees st.time moves a k m) (knees.count a)
      (λ k below. either (FallsToKneeAfter net knees st.time moves a k) (RisesToKneeAfter net knees st.time moves a k) (knee_searched a k) (back_searched a k)))

  -- where the start rests and the end moves, there is a fall
  pub fall_exists : IsPriced net terms knees → IsStuck net terms knees st moves → (fall : ℕ) × IsFall net terms knees st moves fall
  unfolding Searched
  fall_exists priced stuck =
      ⊎_elim
      (λ x. (x.0, record { stuck = stuck; stops = x.1.has; least = λ a n l s. x.1.least n (a, l, s) }))
      (λ none.
      let (walk, walked) = priced.sound.reached net.end priced.range.end_in in
      let (a, l, forward) = crosses net moves walk net.start net.end walked stuck.start_rests stuck.end_moves in
      let room = (optimal.tight.tight a l).room in
      absurd (none (st.time (to_of net.arcs a) - (st.time (from_of net.arcs a) + crash_of terms a))
      (a, l, inl (record { forward = forward; at_crash = omega arith }))))
      (among (λ a m. StopsAfter net terms knees st.time moves a m) (length net.arcs) stops_searched)
