-- What holds of each number below a count, and of some.
use Rattle.std.proofs.Common.{◌≡◌, ℕ, ◌+◌, ◌<◌, zero, suc, Bool, true, false, ◌&&◌, ◌||◌, List, [], ◌∷◌, ◌++◌, length, get_or, refl, sym, arith, inl, inr, subst, ⊎_elim}
use Rattle.std.proofs.lemmas.Bool.{cases_eq, and_parts, and_from, and_right, or_right, or_cases}
use Rattle.std.proofs.lemmas.List.{get_or_append_left, get_or_push}
use Rattle.pc_check.specs.Known.{each_below, some_below}

pub each_below-more : (n : ℕ) (test : ℕ → Bool) → each_below n test ≡ true → test n ≡ true → each_below (n + 1) test ≡ true
each_below-more n test before last = let next : suc n ≡ n + 1 = omega arith in subst (λ m. each_below m test ≡ true) next (and_from (each_below n test) (test n) before last)

pub each_below-all : (n : ℕ) (test : ℕ → Bool) → ((k : ℕ) → k < n → test k ≡ true) → each_below n test ≡ true
each_below-all zero test all = refl
each_below-all (suc n) test all = and_from _ _ (each_below-all n test (λ k lt. all k (omega arith))) (all n (omega arith))

pub each_below-fails : (n : ℕ) (test : ℕ → Bool) (k : ℕ) → k < n → test k ≡ false → each_below n test ≡ false
each_below-fails zero test k lt fails = absurd (omega arith)
each_below-fails (suc n) test k lt fails = elim (cases_eq k n) [
  | inl same ↦ rw (subst (λ i. test i ≡ false) same fails) (and_right (each_below n test) false refl)
  | inr other ↦ rw (each_below-fails n test k (omega arith) fails) refl
]

pub each_below-at : (n : ℕ) (test : ℕ → Bool) (k : ℕ) → each_below n test ≡ true → k < n → test k ≡ true
each_below-at zero test k h lt = absurd (omega arith)
each_below-at (suc n) test k h lt = elim (cases_eq k n) [
  | inl same ↦ subst (λ i. test i ≡ true) (sym same) ((and_parts (each_below n test) (test n) h).1)
  | inr other ↦ each_below-at n test k ((and_parts (each_below n test) (test n) h).0) (omega arith)
]

pub each_below-same : (n : ℕ) (test other : ℕ → Bool) → ((k : ℕ) → k < n → test k ≡ other k) → each_below n test ≡ each_below n other
each_below-same zero test other same = refl
each_below-same (suc n) test other same = rw (each_below-same n test other (λ k lt. same k (omega arith)), same n (omega arith)) refl

pub some_below-finds : (n : ℕ) (test : ℕ → Bool) (k : ℕ) → k < n → test k ≡ true → some_below n test ≡ true
some_below-finds zero test k lt passes = absurd (omega arith)
some_below-finds (suc n) test k lt passes = elim (cases_eq k n) [
  | inl same ↦ rw (subst (λ i. test i ≡ true) same passes) (or_right (some_below n test) true refl)
  | inr other ↦ rw (some_below-finds n test k (omega arith) passes) refl
]

pub some_below-at : (n : ℕ) (test : ℕ → Bool) → some_below n test ≡ true → (k : ℕ) × (k < n) × (test k ≡ true)
some_below-at zero test h = absurd cc
some_below-at (suc n) test h = elim (or_cases (some_below n test) (test n) h) [
  | inl earlier ↦ let found = some_below-at n test earlier in (found.0, omega (arith, found.1), found.2)
  | inr last ↦ (n, omega arith, last)
]

pub some_below-same : (n : ℕ) (test other : ℕ → Bool) → ((k : ℕ) → k < n → test k ≡ other k) → some_below n test ≡ some_below n other
some_below-same zero test other same = refl
some_below-same (suc n) test other same = rw (some_below-same n test other (λ k lt. same k (omega arith)), same n (omega arith)) refl

-- what holds of each row of a list holds of one more
pub each_more : {X : Type 0} (P : ℕ → X → Type 0) (rows : List X) (row d : X) (n : ℕ) → length rows ≡ n →
    ((i : ℕ) → i < n → P i (get_or rows i d)) → P n row → (i : ℕ) → i < n + 1 → P i (get_or (rows ++ row ∷ []) i d)
each_more P rows row d n long each last i below =
    ⊎_elim (λ here. subst (λ k. P k (get_or (rows ++ row ∷ []) k d)) (sym here) (subst (P n) (sym (get_or_push rows row d n long)) last))
    (λ other. subst (P i) (sym (get_or_append_left rows (row ∷ []) d i (omega (arith, long, below, other)))) (each i (omega (arith, below, other)))) (cases_eq i n)

-- where the first of two tests fails, and where the second passes
pub fails_before : (a b : Bool) → a ≡ false → false ≡ (a && b)
fails_before true b h = absurd cc
fails_before false b h = refl

pub passes_behind : (a b : Bool) → b ≡ true → true ≡ (a || b)
passes_behind true b h = refl
passes_behind false b h = sym h
