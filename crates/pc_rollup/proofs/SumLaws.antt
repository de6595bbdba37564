-- Laws of sums over the numbers that have a property.
use Rattle.std.proofs.Common.{◌≡◌, ℕ, zero, suc, ◌+◌, ◌<◌, ◌≤◌, ◌⊎◌, inl, inr, ⊎_elim, refl, ap, sym, ◌∙◌, subst, add-one, ◌^◌, FitsSigned, to_z, of_z, w64, arith}
use Rattle.std.specs.Prelude.{ℤ, pos, ◌+ℤ◌, ◌≤ℤ◌, unsigned_abs}
use Rattle.std.proofs.lemmas.Int.{fits_signed_from_abs, ints, to_z-of_z}
use mir.Val.{SFits}
use Rattle.std.proofs.lemmas.Bool.{cases_eq}
use Rattle.pc_model.specs.Sums.{sum_to}
use Rattle.pc_rollup.specs.Sums.{IsSumOver}

-- a sum is no greater than the sum of the magnitudes
pub unsigned_abs-add : (a b : ℤ) → unsigned_abs (a +ℤ b) ≤ unsigned_abs a + unsigned_abs b
unsigned_abs-add a b = omega (arith, ints)

-- two numbers whose sum fits are added as numbers
pub sum_fits : (a b : ℤ) → SFits w64 a → SFits w64 b → unsigned_abs (a +ℤ b) < 2 ^ 63 → FitsSigned w64 (to_z w64 (of_z w64 a) +ℤ to_z w64 (of_z w64 b))
sum_fits a b fits_a fits_b small =
    rw (to_z-of_z w64 a fits_a, to_z-of_z w64 b fits_b) (fits_signed_from_abs w64 (a +ℤ b) small)

-- their sum, as the code computes it
abbrev pub computed : ℤ → ℤ → ℤ
computed a b = to_z w64 (of_z w64 (to_z w64 (of_z w64 a) +ℤ to_z w64 (of_z w64 b)))

pub sum_is : (a b : ℤ) → SFits w64 a → SFits w64 b → unsigned_abs (a +ℤ b) < 2 ^ 63 → computed a b ≡ a +ℤ b
sum_is a b fits_a fits_b small =
    rw (to_z-of_z w64 a fits_a, to_z-of_z w64 b fits_b) (to_z-of_z w64 (a +ℤ b) (fits_signed_from_abs w64 (a +ℤ b) small))

-- a property has one sum
pub IsSumOver-only : (P : ℕ → Type 0) (n : ℕ) (f : ℕ → ℤ) (s t : ℤ) → IsSumOver P n f s → IsSumOver P n f t → s ≡ t
IsSumOver-only P zero f s t is at = cc
IsSumOver-only P (suc n) f s t (inl (p, (r, (over, e)))) (inl (q, (u, (above, g)))) =
    let same = IsSumOver-only P n f r u over above in
    cc
IsSumOver-only P (suc n) f s t (inl (p, rest)) (inr (none, over)) = absurd (none p)
IsSumOver-only P (suc n) f s t (inr (none, over)) (inl (p, rest)) = absurd (none p)
IsSumOver-only P (suc n) f s t (inr (none, over)) (inr (never, above)) = IsSumOver-only P n f s t over above

-- properties that agree below the count have the same sum
pub IsSumOver-same : (P Q : ℕ → Type 0) (n : ℕ) (f : ℕ → ℤ) (t : ℤ) → ((x : ℕ) → x < n → P x → Q x) → ((x : ℕ) → x < n → Q x → P x) → IsSumOver P n f t → IsSumOver Q n f t
IsSumOver-same P Q zero f t to from is = is
IsSumOver-same P Q (suc n) f t to from (inl (p, (r, (over, e)))) =
    inl (to n (omega arith) p, (r, (IsSumOver-same P Q n f r (λ x h. to x (omega arith)) (λ x h. from x (omega arith)) over, e)))
IsSumOver-same P Q (suc n) f t to from (inr (none, over)) =
    inr (λ q. none (from n (omega arith) q), IsSumOver-same P Q n f t (λ x h. to x (omega arith)) (λ x h. from x (omega arith)) over)

-- the sum over one property or another, which no number has both of, is the sum of the two sums
pub IsSumOver-both : (P Q : ℕ → Type 0) (n : ℕ) (f : ℕ → ℤ) (s t : ℤ) → ((x : ℕ) → x < n → P x → Q x → ⊥) → IsSumOver P n f s → IsSumOver Q n f t → IsSumOver (λ x. P x ⊎ Q x) n f (s +ℤ t)
IsSumOver-both P Q zero f s t apart is at = omega (arith, ints)
IsSumOver-both P Q (suc n) f s t apart (inl (p, (r, (over, e)))) (inl (q, rest)) = absurd (apart n (omega arith) p q)
IsSumOver-both P Q (suc n) f s t apart (inl (p, (r, (over, e)))) (inr (none, above)) =
    inl (inl p, (r +ℤ t, (IsSumOver-both P Q n f r t (λ x h. apart x (omega arith)) over above, omega (arith, ints))))
IsSumOver-both P Q (suc n) f s t apart (inr (none, over)) (inl (q, (u, (above, g)))) =
    inl (inr q, (s +ℤ u, (IsSumOver-both P Q n f s u (λ x h. apart x (omega arith)) over above, omega (arith, ints))))
IsSumOver-both P Q (suc n) f s t apart (inr (none, over)) (inr (never, above)) =
    inr (⊎_elim none never, IsSumOver-both P Q n f s t (λ x h. apart x (omega arith)) over above)

-- an equal sum
pub IsSumOver-at : (P : ℕ → Type 0) (n : ℕ) (f : ℕ → ℤ) (s t : ℤ) → s ≡ t → IsSumOver P n f s → IsSumOver P n f t
IsSumOver-at P n f s t e is = subst (λ (z : ℤ). IsSumOver P n f z) e is

-- no number has the property
pub IsSumOver-none : (P : ℕ → Type 0) (n : ℕ) (f : ℕ → ℤ) → ((x : ℕ) → x < n → P x → ⊥) → IsSumOver P n f (pos 0)
IsSumOver-none P zero f none = refl
IsSumOver-none P (suc n) f none =
    inr (none n (omega arith), IsSumOver-none P n f (λ x h. none x (omega arith)))

-- one number has it
pub IsSumOver-one : (n : ℕ) (f : ℕ → ℤ) (y : ℕ) → y < n → IsSumOver (λ x. x ≡ y) n f (f y)
IsSumOver-one zero f y h = absurd (omega arith)
IsSumOver-one (suc n) f y h =
    ⊎_elim (λ e. inl (sym e, (pos 0, (IsSumOver-none (λ x. x ≡ y) n f (λ x lt is. absurd (omega arith)), rw e (omega (arith, ints))))))
    (λ ne. inr (λ is. ne (sym is), IsSumOver-one n f y (omega arith)))
    (cases_eq y n)

-- one number more
pub IsSumOver-has : (P : ℕ → Type 0) (n : ℕ) (f : ℕ → ℤ) (s t : ℤ) → P n → IsSumOver P n f s → t ≡ s +ℤ f n → IsSumOver P (n + 1) f t
IsSumOver-has P n f s t p over e = rw add-one (inl (p, (s, (over, e))))

pub IsSumOver-lacks : (P : ℕ → Type 0) (n : ℕ) (f : ℕ → ℤ) (s : ℤ) → (P n → ⊥) → IsSumOver P n f s → IsSumOver P (n + 1) f s
IsSumOver-lacks P n f s none over = rw add-one (inr (none, over))

-- where every number has it, the sum is what grows by the amount of each number
pub IsSumOver-all : (P : ℕ → Type 0) (n : ℕ) (f so_far : ℕ → ℤ) (t : ℤ) → so_far 0 ≡ pos 0 →
    ((x : ℕ) → x < n → so_far (x + 1) ≡ so_far x +ℤ f x) → ((x : ℕ) → x < n → P x) → IsSumOver P n f t → t ≡ so_far n
IsSumOver-all P zero f so_far t none more every is = is ∙ sym none
IsSumOver-all P (suc n) f so_far t none more every (inl (p, (r, (over, e)))) =
    let same = IsSumOver-all P n f so_far r none (λ x h. more x (omega arith)) (λ x h. every x (omega arith)) over in
    let next : n + 1 ≡ suc n = omega arith in
    e ∙ ap (λ (z : ℤ). z +ℤ f n) same ∙ sym (more n (omega arith)) ∙ ap so_far next
IsSumOver-all P (suc n) f so_far t none more every (inr (lacks, over)) = absurd (lacks (every n (omega arith)))

-- what has no part in the sum may be left out
pub IsSumOver-part : (P Q : ℕ → Type 0) (n : ℕ) (f : ℕ → ℤ) (t : ℤ) → ((x : ℕ) → x < n → Q x ⊎ ((Q x → ⊥) × (f x ≡ pos 0))) → IsSumOver P n f t → IsSumOver (λ x. Q x × P x) n f t
IsSumOver-part P Q zero f t either is = is
IsSumOver-part P Q (suc n) f t either (inl (p, (r, (over, e)))) =
    ⊎_elim (λ q. inl ((q, p), (r, (IsSumOver-part P Q n f r (λ x h. either x (omega arith)) over, e))))
    (λ (none, zero_is). let same : t ≡ r = omega (arith, ints) in inr (λ (q, pp). none q, rw same (IsSumOver-part P Q n f r (λ x h. either x (omega arith)) over)))
    (either n (omega arith))
IsSumOver-part P Q (suc n) f t either (inr (none, over)) =
    inr (λ (q, pp). none pp, IsSumOver-part P Q n f t (λ x h. either x (omega arith)) over)

-- a sum of sums: where each f x is the sum over what is placed on x, the sum of f over P is that over what is placed on P
pub IsSumOver-nested : (P : ℕ → Type 0) (place : ℕ → ℕ) (n m : ℕ) (f g : ℕ → ℤ) (t : ℤ) →
    ((x : ℕ) → x < n → IsSumOver (λ k. place k ≡ x) m g (f x)) → IsSumOver P n f t → IsSumOver (λ k. P (place k) × (place k < n)) m g t
IsSumOver-nested P place zero m f g t each is =
    IsSumOver-at (λ k. P (place k) × (place k < 0)) m g (pos 0) t (sym is) (IsSumOver-none (λ k. P (place k) × (place k < 0)) m g (λ k h (p, lt). absurd (omega arith)))
IsSumOver-nested P place (suc n) m f g t each (inl (p, (r, (over, e)))) =
    let lower = IsSumOver-nested P place n m f g r (λ x h. each x (omega arith)) over in
    let here = each n (omega arith) in
    IsSumOver-at (λ k. P (place k) × (place k < suc n)) m g (r +ℤ f n) t (sym e)
    (IsSumOver-same (λ k. (P (place k) × (place k < n)) ⊎ (place k ≡ n)) (λ k. P (place k) × (place k < suc n)) m g (r +ℤ f n)
    (λ k h either. ⊎_elim (λ (q, lt). (q, omega arith)) (λ same. (rw same p, omega arith)) either)
    (λ k h (q, lt). ⊎_elim (λ same. inr same) (λ apart. inl (q, omega arith)) (cases_eq (place k) n))
    (IsSumOver-both (λ k. P (place k) × (place k < n)) (λ k. place k ≡ n) m g r (f n) (λ k h (q, lt) same. absurd (omega arith)) lower here))
IsSumOver-nested P place (suc n) m f g t each (inr (none, over)) =
    IsSumOver-same (λ k. P (place k) × (place k < n)) (λ k. P (place k) × (place k < suc n)) m g t
    (λ k h (q, lt). (q, omega arith))
    (λ k h (q, lt). ⊎_elim (λ same. absurd (none (subst P same q))) (λ apart. (q, omega arith)) (cases_eq (place k) n))
    (IsSumOver-nested P place n m f g t (λ x h. each x (omega arith)) over)

-- no sum is greater than the sum of all magnitudes
pub IsSumOver-bound : (P : ℕ → Type 0) (n : ℕ) (f : ℕ → ℤ) (t : ℤ) → IsSumOver P n f t → unsigned_abs t ≤ sum_to n (λ x. unsigned_abs (f x))
IsSumOver-bound P zero f t is = omega (arith, ap unsigned_abs is)
IsSumOver-bound P (suc n) f t (inl (p, (r, (over, e)))) =
    omega (arith, IsSumOver-bound P n f r over, ap unsigned_abs e, unsigned_abs-add r (f n))
IsSumOver-bound P (suc n) f t (inr (none, over)) = omega (arith, IsSumOver-bound P n f t over)

-- amounts that agree below the count have the same sum
pub IsSumOver-amounts : (P : ℕ → Type 0) (n : ℕ) (f g : ℕ → ℤ) (t : ℤ) → ((x : ℕ) → x < n → f x ≡ g x) → IsSumOver P n f t → IsSumOver P n g t
IsSumOver-amounts P zero f g t agree is = is
IsSumOver-amounts P (suc n) f g t agree (inl (p, (r, (over, e)))) =
    inl (p, (r, (IsSumOver-amounts P n f g r (λ x h. agree x (omega arith)) over, e ∙ ap (λ (z : ℤ). r +ℤ z) (agree n (omega arith)))))
IsSumOver-amounts P (suc n) f g t agree (inr (none, over)) =
    inr (none, IsSumOver-amounts P n f g t (λ x h. agree x (omega arith)) over)

-- what is nothing each time sums to nothing
pub IsSumOver-nothing : (P : ℕ → Type 0) (n : ℕ) (f : ℕ → ℤ) (t : ℤ) → IsSumOver P n f t → IsSumOver P n (λ x. pos 0) (pos 0)
IsSumOver-nothing P zero f t is = refl
IsSumOver-nothing P (suc n) f t (inl (p, (r, (over, e)))) =
    inl (p, (pos 0, (IsSumOver-nothing P n f r over, omega (arith, ints))))
IsSumOver-nothing P (suc n) f t (inr (none, over)) =
    inr (none, IsSumOver-nothing P n f t over)

-- the sum of two amounts is summed by their sums
pub IsSumOver-plus : (P : ℕ → Type 0) (n : ℕ) (f g : ℕ → ℤ) (s t : ℤ) → IsSumOver P n f s → IsSumOver P n g t → IsSumOver P n (λ x. f x +ℤ g x) (s +ℤ t)
IsSumOver-plus P zero f g s t is at = omega (arith, ints)
IsSumOver-plus P (suc n) f g s t (inl (p, (r, (over, e)))) (inl (q, (u, (above, h)))) =
    inl (p, (r +ℤ u, (IsSumOver-plus P n f g r u over above, omega (arith, ints))))
IsSumOver-plus P (suc n) f g s t (inl (p, rest)) (inr (none, above)) = absurd (none p)
IsSumOver-plus P (suc n) f g s t (inr (none, over)) (inl (p, rest)) = absurd (none p)
IsSumOver-plus P (suc n) f g s t (inr (none, over)) (inr (never, above)) =
    inr (none, IsSumOver-plus P n f g s t over above)

-- what is never negative has no negative sum
pub IsSumOver-natural : (P : ℕ → Type 0) (n : ℕ) (f : ℕ → ℤ) (t : ℤ) → ((x : ℕ) → x < n → pos 0 ≤ℤ f x) → IsSumOver P n f t → pos 0 ≤ℤ t
IsSumOver-natural P zero f t natural is = omega (arith, ints)
IsSumOver-natural P (suc n) f t natural (inl (p, (r, (over, e)))) =
    let rest = IsSumOver-natural P n f r (λ x h. natural x (omega arith)) over in
    let here = natural n (omega arith) in
    omega (arith, ints)
IsSumOver-natural P (suc n) f t natural (inr (none, over)) =
    IsSumOver-natural P n f t (λ x h. natural x (omega arith)) over

-- if it is decided which numbers have the property, there is a sum
pub IsSumOver-some : (P : ℕ → Type 0) (n : ℕ) (f : ℕ → ℤ) → ((x : ℕ) → x < n → P x ⊎ (P x → ⊥)) → (t : ℤ) × IsSumOver P n f t
IsSumOver-some P zero f told = (pos 0, refl)
IsSumOver-some P (suc n) f told =
    let (r, over) = IsSumOver-some P n f (λ x h. told x (omega arith)) in
    ⊎_elim (λ p. (r +ℤ f n, inl (p, (r, (over, refl))))) (λ none. (r, inr (none, over))) (told n (omega arith))

-- a sum of sums that have no number in common: where f x is the sum of g over Q x for each x that has P, the sum of f over P is
-- that of g over the numbers in some such Q x
pub IsSumOver-parts : (P : ℕ → Type 0) (Q : ℕ → ℕ → Type 0) (n m : ℕ) (f g : ℕ → ℤ) (t : ℤ)
    → ((x : ℕ) → x < n → P x → IsSumOver (Q x) m g (f x))
    → ((x y k : ℕ) → x < y → y < n → k < m → P x → P y → Q x k → Q y k → ⊥)
    → IsSumOver P n f t → IsSumOver (λ k. (x : ℕ) × ((x < n) × P x × Q x k)) m g t
IsSumOver-parts P Q zero m f g t each apart is =
    IsSumOver-at (λ k. (x : ℕ) × ((x < 0) × P x × Q x k)) m g (pos 0) t (sym is) (IsSumOver-none (λ k. (x : ℕ) × ((x < 0) × P x × Q x k)) m g (λ k h (x, (lt, has, in_x)). absurd (omega arith)))
IsSumOver-parts P Q (suc n) m f g t each apart (inl (p, (r, (over, e)))) =
    let lower = IsSumOver-parts P Q n m f g r (λ x h. each x (omega arith)) (λ x y k less h. apart x y k less (omega arith)) over in
    IsSumOver-at (λ k. (x : ℕ) × ((x < suc n) × P x × Q x k)) m g (r +ℤ f n) t (sym e)
    (IsSumOver-same (λ k. ((x : ℕ) × ((x < n) × P x × Q x k)) ⊎ Q n k) (λ k. (x : ℕ) × ((x < suc n) × P x × Q x k)) m g (r +ℤ f n)
    (λ k h either. ⊎_elim (λ (x, (lt, has, in_x)). (x, (omega arith, has, in_x))) (λ in_n. (n, (omega arith, p, in_n))) either)
    (λ k h (x, (lt, has, in_x)). ⊎_elim (λ same. inr (subst (λ (y : ℕ). Q y k) same in_x)) (λ ne. inl (x, (omega arith, has, in_x))) (cases_eq x n))
    (IsSumOver-both (λ k. (x : ℕ) × ((x < n) × P x × Q x k)) (Q n) m g r (f n) (λ k h (x, (lt, has, in_x)) in_n. apart x n k lt (omega arith) h has p in_x in_n) lower (each n (omega arith) p)))
IsSumOver-parts P Q (suc n) m f g t each apart (inr (none, over)) =
    IsSumOver-same (λ k. (x : ℕ) × ((x < n) × P x × Q x k)) (λ k. (x : ℕ) × ((x < suc n) × P x × Q x k)) m g t
    (λ k h (x, (lt, has, in_x)). (x, (omega arith, has, in_x)))
    (λ k h (x, (lt, has, in_x)). ⊎_elim (λ same. absurd (none (subst P same has))) (λ ne. (x, (omega arith, has, in_x))) (cases_eq x n))
    (IsSumOver-parts P Q n m f g t (λ x h. each x (omega arith)) (λ x y k less h. apart x y k less (omega arith)) over)
