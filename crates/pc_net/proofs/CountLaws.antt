-- How often a number occurs in a list.
use Rattle.std.proofs.Common.{◌≡◌, ◌≢◌, ℕ, zero, suc, ◌+◌, ◌<◌, ◌==◌, List, [], ◌∷◌, length, slice_index, set, cond, count_by, refl, ◌∙◌, ap, ⊎_elim, arith, eq-eqb}
use Rattle.std.proofs.lemmas.Bool.{cases_eq, ne_eqb}
use Rattle.std.proofs.lemmas.List.Sums.{sum_by-set, get_or-le-sum_by, sum_by-cons}
use Rattle.pc_model.specs.Greatest.{StandsBelow}

-- 1 at v, 0 elsewhere
pub one_at_same : (v w : ℕ) → w ≡ v → ◌≡◌ {A = ℕ} (cond (w == v) 1 0) 1
one_at_same v w is = ap (λ b. cond {A = ℕ} b 1 0) (eq-eqb w v is)

pub one_at_other : (v w : ℕ) → w ≢ v → ◌≡◌ {A = ℕ} (cond (w == v) 1 0) 0
one_at_other v w isnt = ap (λ b. cond {A = ℕ} b 1 0) (ne_eqb w v isnt)

-- a write takes the old number off the count and puts the new one on it
pub count-set : (v : ℕ) (xs : List ℕ) (k new : ℕ) → k < length xs → count_by (λ w. w == v) (set xs k new) + cond (slice_index xs k == v) 1 0 ≡ count_by (λ w. w == v) xs + cond (new == v) 1 0
count-set v xs k new below = sum_by-set (λ w. cond (w == v) 1 0) xs k new 0 below

-- a number that is not counted is nowhere
pub count_none : (v : ℕ) (xs : List ℕ) → count_by (λ w. w == v) xs ≡ 0 → (k : ℕ) → k < length xs → slice_index xs k ≢ v
count_none v xs none k below is =
    omega (arith, get_or-le-sum_by (λ w. cond (w == v) 1 0) xs k 0 below, one_at_same v (slice_index xs k) is)

-- a number that is counted is somewhere
pub count_some : (v : ℕ) (xs : List ℕ) → count_by (λ w. w == v) xs ≢ 0 → StandsBelow xs (length xs) v
count_some v [] some = absurd (some refl)
count_some v (x ∷ xs) some =
    ⊎_elim (λ is. (zero, omega arith, is))
    (λ isnt.
    let rest : count_by (λ w. w == v) xs ≢ 0 = λ none. some (sum_by-cons (λ w. cond (w == v) 1 0) x xs ∙ omega (arith, one_at_other v x isnt, none)) in
    let stands = count_some v xs rest in
    (suc stands.0, omega (arith, stands.1), stands.2))
    (cases_eq x v)
