-- Laws of sums over the numbers below a count.
use Rattle.std.proofs.Common.{◌≡◌, ◌≢◌, ℕ, zero, suc, ◌+◌, ◌*◌, ◌<◌, ◌≤◌, ◌==◌, Bool, true, false, inl, inr, refl, ap, sym, arith}
use Rattle.std.specs.Prelude.{if◌then◌else◌}
use Rattle.std.proofs.lemmas.Bool.{cases_eq, eq-eqb, ne_eqb, cond-true, cond-false}
use Rattle.std.proofs.Math.Nat.{mul-add}
use Rattle.pc_model.specs.Sums.{sum_to, at_event}

-- a sum of sums is the sum of the two sums
pub sum_to-add : (n : ℕ) (f g : ℕ → ℕ) → sum_to n (λ a. f a + g a) ≡ sum_to n f + sum_to n g
sum_to-add zero f g = refl
sum_to-add (suc n) f g = omega (arith, sum_to-add n f g)

-- functions that agree below the count have the same sum
pub sum_to-same : (n : ℕ) (f g : ℕ → ℕ) → ((a : ℕ) → a < n → f a ≡ g a) → sum_to n f ≡ sum_to n g
sum_to-same zero f g same = refl
sum_to-same (suc n) f g same =
    omega (arith, sum_to-same n f g (λ a h. same a (omega arith)), same n (omega arith))

-- the greater function has the greater sum
pub sum_to-le : (n : ℕ) (f g : ℕ → ℕ) → ((a : ℕ) → a < n → f a ≤ g a) → sum_to n f ≤ sum_to n g
sum_to-le zero f g below = omega arith
sum_to-le (suc n) f g below =
    omega (arith, sum_to-le n f g (λ a h. below a (omega arith)), below n (omega arith))

-- the first n terms, and m more
pub sum_to-split : (n m : ℕ) (f : ℕ → ℕ) → sum_to (n + m) f ≡ sum_to n f + sum_to m (λ a. f (n + a))
sum_to-split n zero f =
    let none : n + 0 ≡ n = omega arith in
    omega (arith, ap (λ (k : ℕ). sum_to k f) none)
sum_to-split n (suc m) f =
    let next : n + suc m ≡ suc (n + m) = omega arith in
    omega (arith, sum_to-split n m f, ap (λ (k : ℕ). sum_to k f) next)

-- a sum of n terms, none above a bound
pub sum_to-most : (n most : ℕ) (f : ℕ → ℕ) → ((k : ℕ) → k < n → f k ≤ most) → sum_to n f ≤ n * most
sum_to-most zero most f below = omega arith
sum_to-most (suc n) most f below = omega (arith, sum_to-most n most f (λ k inside. below k (omega arith)), below n (omega arith))

-- a sum of zeros is 0
pub sum_to-zero : (n : ℕ) (f : ℕ → ℕ) → ((a : ℕ) → a < n → f a ≡ 0) → sum_to n f ≡ 0
sum_to-zero zero f none = refl
sum_to-zero (suc n) f none =
    omega (arith, sum_to-zero n f (λ a h. none a (omega arith)), none n (omega arith))

-- each term is at most the sum
pub sum_to-bound : (n : ℕ) (f : ℕ → ℕ) (k : ℕ) → k < n → f k ≤ sum_to n f
sum_to-bound zero f k h = absurd (omega arith)
sum_to-bound (suc n) f k h =
    elim (cases_eq k n) [
      | inl e ↦ omega (arith, ap f e)
      | inr ne ↦ omega (arith, sum_to-bound n f k (omega arith))
    ]

-- functions that agree but at k have sums that differ as they do there
pub sum_to-change : (n : ℕ) (f g : ℕ → ℕ) (k : ℕ) → k < n → ((a : ℕ) → a < n → a ≢ k → f a ≡ g a) → sum_to n f + g k ≡ sum_to n g + f k
sum_to-change zero f g k h same = absurd (omega arith)
sum_to-change (suc n) f g k h same =
    elim (cases_eq k n) [
      | inl e ↦ omega (arith, ap f e, ap g e, sum_to-same n f g (λ a b. same a (omega arith) (omega arith)))
      | inr ne ↦ omega (arith, sum_to-change n f g k (omega arith) (λ a b. same a (omega arith)), same n (omega arith) (λ x. ne (sym x)))
    ]

-- functions that agree but at j and k
pub sum_to-change_two : (n : ℕ) (f g : ℕ → ℕ) (j k : ℕ) → j < n → k < n → j ≢ k → ((a : ℕ) → a < n → a ≢ j → a ≢ k → f a ≡ g a) → sum_to n f + (g j + g k) ≡ sum_to n g + (f j + f k)
sum_to-change_two zero f g j k hj hk ne same = absurd (omega arith)
sum_to-change_two (suc n) f g j k hj hk ne same =
    elim (cases_eq j n) [
      | inl e ↦ omega (arith, ap f e, ap g e, sum_to-change n f g k (omega arith) (λ a b nk. same a (omega arith) (omega arith) nk))
      | inr nj ↦ elim (cases_eq k n) [
        | inl e ↦ omega (arith, ap f e, ap g e, sum_to-change n f g j (omega arith) (λ a b na. same a (omega arith) na (omega arith)))
        | inr nk ↦ omega (arith, sum_to-change_two n f g j k (omega arith) (omega arith) ne (λ a b. same a (omega arith)), same n (omega arith) (λ x. nj (sym x)) (λ x. nk (sym x)))
      ]
    ]

-- a factor goes into the sum
pub sum_to-times : (n c : ℕ) (f : ℕ → ℕ) → c * sum_to n f ≡ sum_to n (λ a. c * f a)
sum_to-times zero c f = omega arith
sum_to-times (suc n) c f = omega (arith, mul-add c (sum_to n f) (f n), sum_to-times n c f)

-- the sum of one term alone
pub sum_to-pick : (n : ℕ) (f : ℕ → ℕ) (x : ℕ) → x < n → sum_to n (λ a. if x == a then f a else 0) ≡ f x
sum_to-pick zero f x h = absurd (omega arith)
sum_to-pick (suc n) f x h =
    elim (cases_eq x n) [
      | inl e ↦ omega (arith, ap f e, cond-true (x == n) (f n) 0 (eq-eqb x n e), sum_to-zero n (λ a. if x == a then f a else 0) (λ a b. cond-false (x == a) (f a) 0 (ne_eqb x a (omega arith))))
      | inr ne ↦ omega (arith, sum_to-pick n f x (omega arith), cond-false (x == n) (f n) 0 (ne_eqb x n ne))
    ]

-- a factor goes into a choice
pub times-if : (b : Bool) (c x : ℕ) → c * (if b then x else 0) ≡ (if b then c * x else 0)
times-if true c x = refl
times-if false c x = omega arith

-- the sum over events of their weight times their amount is the sum over amounts of the weight of their event
pub swap_sums : (n m : ℕ) (weight f place : ℕ → ℕ) → ((a : ℕ) → a < m → place a < n) →
    sum_to n (λ e. weight e * at_event m place f e) ≡ sum_to m (λ a. weight (place a) * f a)
swap_sums n zero weight f place inside = sum_to-zero n (λ e. weight e * 0) (λ e h. omega arith)
swap_sums n (suc m) weight f place inside =
    let last : ℕ → ℕ = λ e. if place m == e then f m else 0 in
    omega (
      arith,
      sum_to-same n (λ e. weight e * (at_event m place f e + last e)) (λ e. weight e * at_event m place f e + weight e * last e)
          (λ e h. mul-add (weight e) (at_event m place f e) (last e)),
      sum_to-add n (λ e. weight e * at_event m place f e) (λ e. weight e * last e),
      swap_sums n m weight f place (λ a h. inside a (omega arith)),
      sum_to-same n (λ e. weight e * last e) (λ e. if place m == e then weight e * f m else 0) (λ e h. times-if (place m == e) (weight e) (f m)),
      sum_to-pick n (λ e. weight e * f m) (place m) (inside m (omega arith)),
    )

-- the longer sum of the same terms is the greater
pub sum_to-mono : (j k : ℕ) (f : ℕ → ℕ) → j ≤ k → sum_to j f ≤ sum_to k f
sum_to-mono j zero f l = omega (arith, ap (λ n. sum_to n f) (let is : j ≡ 0 = omega arith in is))
sum_to-mono j (suc k) f l =
    elim (cases_eq j (suc k)) [
      | inl e ↦ omega (arith, ap (λ n. sum_to n f) e)
      | inr ne ↦ omega (arith, sum_to-mono j k f (omega arith))
    ]

-- where the terms are 0 from k on, the sum ends there
pub sum_to-ends : (n k : ℕ) (f : ℕ → ℕ) → k ≤ n → ((j : ℕ) → k ≤ j → j < n → f j ≡ 0) → sum_to n f ≡ sum_to k f
sum_to-ends zero k f l none = let is : 0 ≡ k = omega arith in ap (λ n. sum_to n f) is
sum_to-ends (suc n) k f l none =
    elim (cases_eq k (suc n)) [
      | inl e ↦ sym (ap (λ m. sum_to m f) e)
      | inr ne ↦ omega (arith, sum_to-ends n k f (omega arith) (λ j from to. none j from (omega arith)), none n (omega arith) (omega arith))
    ]
