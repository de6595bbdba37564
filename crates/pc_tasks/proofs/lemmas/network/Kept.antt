-- What a filter keeps of a list of numbers.
use Rattle.std.proofs.Common.{◌≡◌, ◌≢◌, ℕ, zero, suc, ◌<◌, Bool, true, false, List, [], ◌∷◌, length, slice_index, refl, sym, ◌∙◌, ap, subst, ⊎_elim, arith}
use Rattle.std.specs.Prelude.{filter}
use Rattle.std.proofs.lemmas.Bool.{cases_Bool, cond-true, cond-false}
use Rattle.pc_model.specs.Greatest.{StandsBelow}

-- v is one of the numbers
abbrev pub Stands : List ℕ → ℕ → Type 0
Stands xs v = StandsBelow xs (length xs) v

-- no two of them are the same
abbrev pub AreOnce : List ℕ → Type 0
AreOnce xs = (j k : ℕ) → j < k → k < length xs → slice_index xs j ≢ slice_index xs k

pub Stands-more : (x : ℕ) (xs : List ℕ) (v : ℕ) → Stands xs v → Stands (x ∷ xs) v
Stands-more x xs v (j, inside, is) = (suc j, omega arith, is)

module _ (p : ℕ → Bool) where
  pub filter-yes : (x : ℕ) (xs : List ℕ) → p x ≡ true → filter p (x ∷ xs) ≡ x ∷ filter p xs
  filter-yes x xs passes = cond-true (p x) (x ∷ filter p xs) (filter p xs) passes

  pub filter-no : (x : ℕ) (xs : List ℕ) → p x ≡ false → filter p (x ∷ xs) ≡ filter p xs
  filter-no x xs fails = cond-false (p x) (x ∷ filter p xs) (filter p xs) fails

  -- what is kept stood there
  pub kept_stands : (xs : List ℕ) (v : ℕ) → Stands (filter p xs) v → Stands xs v
  kept_stands [] v (j, inside, is) = absurd (omega arith)
  kept_stands (x ∷ xs) v stands =
      ⊎_elim
      (λ passes_x. here (kept_stands xs v) (subst (λ kept. Stands kept v) (filter-yes x xs passes_x) stands))
      (λ fails_x. Stands-more x xs v (kept_stands xs v (subst (λ kept. Stands kept v) (filter-no x xs fails_x) stands)))
      (cases_Bool (p x))
    where
      here : (Stands (filter p xs) v → Stands xs v) → Stands (x ∷ filter p xs) v → Stands (x ∷ xs) v
      here of (zero, inside, is) = (zero, omega arith, is)
      here of (suc j, inside, is) = Stands-more x xs v (of (j, omega arith, is))

  -- and what stood there and passes is kept
  pub stands_kept : (xs : List ℕ) (v : ℕ) → Stands xs v → p v ≡ true → Stands (filter p xs) v
  stands_kept [] v (j, inside, is) passes = absurd (omega arith)
  stands_kept (x ∷ xs) v (zero, inside, is) passes =
      subst (λ kept. Stands kept v) (sym (filter-yes x xs (ap p is ∙ passes))) (zero, omega arith, is)
  stands_kept (x ∷ xs) v (suc j, inside, is) passes =
      ⊎_elim
      (λ passes_x. subst (λ kept. Stands kept v) (sym (filter-yes x xs passes_x)) (Stands-more x (filter p xs) v (stands_kept xs v (j, omega arith, is) passes)))
      (λ fails_x. subst (λ kept. Stands kept v) (sym (filter-no x xs fails_x)) (stands_kept xs v (j, omega arith, is) passes))
      (cases_Bool (p x))

  -- numbers that occur once are kept once
  pub AreOnce-filter : (xs : List ℕ) → AreOnce xs → AreOnce (filter p xs)
  AreOnce-filter [] once = λ j k before inside. absurd (omega arith)
  AreOnce-filter (x ∷ xs) once =
      let rest : AreOnce (filter p xs) = AreOnce-filter xs (λ j k before inside. once (suc j) (suc k) (omega arith) (omega arith)) in
      ⊎_elim
      (λ passes_x. subst AreOnce (sym (filter-yes x xs passes_x)) (front rest))
      (λ fails_x. subst AreOnce (sym (filter-no x xs fails_x)) rest)
      (cases_Bool (p x))
    where
      front : AreOnce (filter p xs) → AreOnce (x ∷ filter p xs)
      front rest zero zero before inside = absurd (omega arith)
      front rest zero (suc k) before inside = λ same.
          let (i, stood, is) = kept_stands xs (slice_index (filter p xs) k) (k, omega arith, refl) in
          once zero (suc i) (omega arith) (omega arith) (same ∙ sym is)
      front rest (suc j) zero before inside = absurd (omega arith)
      front rest (suc j) (suc k) before inside = rest j k (omega arith) (omega arith)
