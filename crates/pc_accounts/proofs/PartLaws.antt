-- Laws of sums over a filter of the first rows.
use Rattle.std.proofs.Common.{◌≡◌, ℕ, zero, suc, ◌+◌, ◌*◌, ◌<◌, ◌≤◌, Bool, true, false, cond, List, [], ◌∷◌, length, get_or, take, refl, ap, ◌∙◌, arith}
use Rattle.std.specs.List.{filter, sum_by}
use Rattle.std.proofs.lemmas.List.Elements.{filter_more}
use Rattle.std.proofs.lemmas.List.Sums.{sum_by-append, sum_by_more}
use Rattle.pc_model.specs.Sums.{sum_to}

-- what one row more adds
pub part_more : {X : Type 0} (f : X → ℕ) (p : X → Bool) (xs : List X) (i : ℕ) (d : X) → i < length xs →
    sum_by f (filter p (take (i + 1) xs)) ≡ sum_by f (filter p (take i xs)) + cond (p (get_or xs i d)) (f (get_or xs i d)) 0
part_more {X} f p xs i d h =
    ap (sum_by f) (filter_more p xs i d h) ∙ (sum_by-append f (filter p (take i xs)) (cond (p x) (x ∷ []) []) ∙ ap (λ n. sum_by f (filter p (take i xs)) + n) (of_test (p x)))
  where
    x : X
    x = get_or xs i d

    of_test : (b : Bool) → sum_by f (cond b (x ∷ []) []) ≡ cond b (f x) 0
    of_test true = omega arith
    of_test false = refl

-- what the first rows add up to, by their numbers
pub part_sum : {X : Type 0} (f : X → ℕ) (xs : List X) (d : X) (i : ℕ) → i ≤ length xs → sum_by f (take i xs) ≡ sum_to i (λ k. f (get_or xs k d))
part_sum f xs d zero h = refl
part_sum f xs d (suc i) h =
    let e : suc i ≡ i + 1 = omega arith in
    omega (arith, ap (λ (k : ℕ). sum_by f (take k xs)) e, sum_by_more f xs i d (omega arith), part_sum f xs d i (omega arith))

-- if no row adds more than m, i rows add at most i times m
pub part_le : {X : Type 0} (f : X → ℕ) (p : X → Bool) (xs : List X) (d : X) (m i : ℕ) → i ≤ length xs → ((k : ℕ) → k < length xs → f (get_or xs k d) ≤ m) → sum_by f (filter p (take i xs)) ≤ i * m
part_le f p xs d m zero h small = omega arith
part_le {X} f p xs d m (suc i) h small =
    let more = part_more f p xs i d (omega arith) in
    let e : suc i ≡ i + 1 = omega arith in
    rw e (omega (arith, more, part_le f p xs d m i (omega arith) small, of_test (p (get_or xs i d))))
  where
    of_test : (b : Bool) → cond b (f (get_or xs i d)) 0 ≤ m
    of_test true = small i (omega arith)
    of_test false = omega arith
