-- Among n + 1 numbers below n two are the same.
use Rattle.std.proofs.Common.{◌≡◌, ◌≢◌, ℕ, zero, suc, ◌<◌, ◌≤◌, ◌⊎◌, List, length, inl, inr, ⊎_elim, arith}
use Rattle.std.specs.Prelude.{◌==◌, if◌then◌else◌, slice_index}
use Rattle.std.proofs.lemmas.Bool.{cases_lt, cases_eq, cases_Bool, eqb-true, eqb-false, cond-true, cond-false}

-- two of the first n + 1 numbers are the same
abbrev pub Repeats : ℕ → (ℕ → ℕ) → Type 0
Repeats n f = (i : ℕ) × ((j : ℕ) × ((i < j) × (j ≤ n) × (f i ≡ f j)))

-- v is among the first m numbers, or not
find : (m : ℕ) (f : ℕ → ℕ) (v : ℕ) → ((i : ℕ) × ((i < m) × (f i ≡ v))) ⊎ ((i : ℕ) → i < m → f i ≢ v)
find zero f v = inr (λ i h. absurd (omega arith))
find (suc m) f v =
    ⊎_elim (λ found. inl (found.0, (omega (arith, found.1.0), found.1.1)))
    (λ none. ⊎_elim (λ e. inl (m, (omega arith, e))) (λ ne. inr (λ i h. last i h none ne (cases_eq i m))) (cases_eq (f m) v))
    (find m f v)
  where
    last : (i : ℕ) → i < suc m → ((k : ℕ) → k < m → f k ≢ v) → f m ≢ v → (i ≡ m) ⊎ (i ≢ m) → f i ≢ v
    last i h none ne (inl e) = rw e ne
    last i h none ne (inr d) = none i (omega arith)

-- n is left out: if f i is n, the last number replaces it
squeezed : ℕ → (ℕ → ℕ) → ℕ → ℕ
squeezed n f i = if f i == n then f (suc n) else f i

squeezed-cases : (n : ℕ) (f : ℕ → ℕ) (i : ℕ) → ((f i ≡ n) × (squeezed n f i ≡ f (suc n))) ⊎ ((f i ≢ n) × (squeezed n f i ≡ f i))
unfolding squeezed
squeezed-cases n f i =
    ⊎_elim (λ t. inl (eqb-true _ _ t, cond-true _ _ _ t)) (λ t. inr (eqb-false _ _ t, cond-false _ _ _ t)) (cases_Bool (f i == n))

pub repeats : (n : ℕ) (f : ℕ → ℕ) → ((i : ℕ) → i ≤ n → f i < n) → Repeats n f
repeats zero f h = absurd (omega (arith, h 0 (omega arith)))
repeats (suc n) f h =
    ⊎_elim (λ found. (found.0, (suc n, (omega (arith, found.1.0), omega arith, found.1.1))))
    (λ none. widen none (repeats n (squeezed n f) (small none)))
    (find (suc n) f (f (suc n)))
  where
    small : ((i : ℕ) → i < suc n → f i ≢ f (suc n)) → (i : ℕ) → i ≤ n → squeezed n f i < n
    small none i k =
        let here = h i (omega arith) in
        let last = h (suc n) (omega arith) in
        let apart = none i (omega arith) in
        ⊎_elim (λ c. omega (arith, c.0, c.1)) (λ c. omega (arith, c.0, c.1)) (squeezed-cases n f i)

    same : (i j : ℕ) → ((i : ℕ) → i < suc n → f i ≢ f (suc n)) → i ≤ n → j ≤ n → squeezed n f i ≡ squeezed n f j → f i ≡ f j
    same i j none hi hj e =
        let ni = none i (omega arith) in
        let nj = none j (omega arith) in
        ⊎_elim (λ c. ⊎_elim (λ d. omega (arith, c.0, d.0)) (λ d. absurd (omega (arith, c.1, d.1))) (squeezed-cases n f j))
        (λ c. ⊎_elim (λ d. absurd (omega (arith, c.1, d.1))) (λ d. omega (arith, c.1, d.1)) (squeezed-cases n f j))
        (squeezed-cases n f i)

    widen : ((i : ℕ) → i < suc n → f i ≢ f (suc n)) → Repeats n (squeezed n f) → Repeats (suc n) f
    widen none (i, (j, (lt, le, e))) =
        (i, (j, (lt, omega arith, same i j none (omega arith) le e)))

-- so there are at most n different numbers below n
pub length-apart : (n : ℕ) (xs : List ℕ) → ((k : ℕ) → k < length xs → slice_index xs k < n) → ((j k : ℕ) → j < k → k < length xs → slice_index xs j ≢ slice_index xs k) → length xs ≤ n
length-apart n xs small apart =
    ⊎_elim (λ long. absurd (clash long (repeats n (λ i. slice_index xs i) (λ i h. small i (omega arith))))) (λ fits. fits) (cases_lt n (length xs))
  where
    clash : n < length xs → Repeats n (λ i. slice_index xs i) → ⊥
    clash long (i, (j, (lt, le, e))) = apart i j lt (omega arith) e
