-- Marks of tasks, and the numbers without one.
use Rattle.std.proofs.Common.{◌≡◌, ℕ, ◌+◌, ◌<◌, ◌==◌, ◌||◌, Bool, true, false, cond, List, [], ◌∷◌, ◌++◌, length, get_or, set, take, refl, sym, ◌∙◌, ap, subst, ⊎_elim, arith}
use Rattle.std.specs.Prelude.{All, filter, not}
use Rattle.std.specs.List.{range_with_len}
use Rattle.std.proofs.lemmas.Bool.{cases_eq, or_right}
use Rattle.std.proofs.lemmas.Bool.Decides.{nat_tests}
use Rattle.std.proofs.lemmas.List.{append-nil, get_or-set_other, get_or-set_same, length-set, map-id}
use Rattle.std.proofs.lemmas.List.Elements.{All-from_get_or, All-head, All-tail}
use Rattle.std.proofs.lemmas.List.Folds.{list_any_more}
use Rattle.std.proofs.lemmas.List.FromFn.{filter_of_map_range_with_len_more, get_or-range_with_len, length-range_with_len}
use Rattle.pc_tasks.specs.network.Arrows.{comes_after, comes_before}
use Rattle.pc_project.specs.declared.placed.AfterRow.{AfterRow}
use Rattle.pc_tasks.specs.inside.Marks.{AreMarks}

or_false : (b : Bool) → (b || false) ≡ b
or_false true = refl
or_false false = refl

same_number : (t i : ℕ) → i ≡ t → (t == i) ≡ true
same_number t i same = grind (arith, nat_tests)

other_number : (t i : ℕ) → (i ≡ t → ⊥) → (t == i) ≡ false
other_number t i differs = grind (arith, nat_tests)

-- one more is set
pub one_more : (n : ℕ) (test more : ℕ → Bool) (marks : List Bool) (t : ℕ) → AreMarks n test marks → t < n → ((i : ℕ) → more i ≡ (test i || (t == i))) → AreMarks n more (set marks t true)
one_more n test more marks t are inside by = record {
  one_each = length-set marks t true ∙ are.one_each;
  each = λ i below. ⊎_elim
      (λ same. ap (λ k. get_or (set marks t true) k false) same
      ∙ (get_or-set_same marks t true false (omega (arith, are.one_each, inside))
      ∙ sym (by i ∙ or_right (test i) (t == i) (same_number t i same))))
      (λ differs. get_or-set_other marks t i true false differs
      ∙ (are.each i below
      ∙ sym (by i ∙ (ap (λ b. test i || b) (other_number t i differs) ∙ or_false (test i)))))
      (cases_eq i t);
}

-- the task of one more row comes after some other, and some other comes after the one before it
module _ (n : ℕ) (rows : List AfterRow) (j : ℕ) (d : AfterRow) (marks : List Bool) (inside : j < length rows) where
  pub after_more : (get_or rows j d).task < n → AreMarks n (comes_after (take j rows)) marks →
      AreMarks n (comes_after (take (j + 1) rows)) (set marks (get_or rows j d).task true)
  after_more known are =
      one_more n (comes_after (take j rows)) (comes_after (take (j + 1) rows)) marks (get_or rows j d).task are known (λ i. list_any_more (λ after. after.task == i) rows j d inside)

  pub before_more : (get_or rows j d).before < n → AreMarks n (comes_before (take j rows)) marks →
      AreMarks n (comes_before (take (j + 1) rows)) (set marks (get_or rows j d).before true)
  before_more known are =
      one_more n (comes_before (take j rows)) (comes_before (take (j + 1) rows)) marks (get_or rows j d).before are known (λ i. list_any_more (λ after. after.before == i) rows j d inside)

-- tests that agree keep the same
filter-agree : (p q : ℕ → Bool) (xs : List ℕ) → All (λ x. p x ≡ q x) xs → filter p xs ≡ filter q xs
filter-agree p q [] agree = refl
filter-agree p q (x ∷ xs) agree =
    ap (λ b. cond b (x ∷ filter p xs) (filter p xs)) (All-head (λ x. p x ≡ q x) x xs agree)
    ∙ ap (λ kept. cond (q x) (x ∷ kept) kept) (filter-agree p q xs (All-tail (λ x. p x ≡ q x) x xs agree))

-- the numbers without a mark are those that fail the test
pub unmarked-fail : (n : ℕ) (test : ℕ → Bool) (marks : List Bool) → AreMarks n test marks →
    filter (λ i. not (get_or marks i false)) (range_with_len 0 (length marks)) ≡ filter (λ i. not (test i)) (range_with_len 0 n)
unmarked-fail n test marks are =
    ap (λ m. filter (λ i. not (get_or marks i false)) (range_with_len 0 m)) are.one_each
    ∙ filter-agree (λ i. not (get_or marks i false)) (λ i. not (test i)) (range_with_len 0 n)
    (All-from_get_or (λ i. not (get_or marks i false) ≡ not (test i)) (range_with_len 0 n) 0 (λ k inside.
    let below : k < n = omega (arith, length-range_with_len 0 n, inside) in
    let is : get_or (range_with_len 0 n) k 0 ≡ k = get_or-range_with_len 0 n k 0 below ∙ omega arith in
    subst (λ i. not (get_or marks i false) ≡ not (test i)) (sym is) (ap not (are.each k below))))

-- one more number
pub filter-more : (p : ℕ → Bool) (n : ℕ) → filter p (range_with_len 0 (n + 1)) ≡ filter p (range_with_len 0 n) ++ cond (p n) (n ∷ []) []
filter-more p n =
    ap (filter p) (sym (map-id (range_with_len 0 (n + 1))))
    ∙ (filter_of_map_range_with_len_more p (λ i. i) 0 n n (omega arith)
    ∙ ap (λ xs. filter p xs ++ cond (p n) (n ∷ []) []) (map-id (range_with_len 0 n)))

-- the next number is kept, or left out
pub kept-more : (p : ℕ → Bool) (n : ℕ) (found : List ℕ) → found ≡ filter p (range_with_len 0 n) → p n ≡ true → found ++ n ∷ [] ≡ filter p (range_with_len 0 (n + 1))
kept-more p n found is passes =
    ap (λ xs. xs ++ n ∷ []) is ∙ sym (filter-more p n ∙ ap (λ b. filter p (range_with_len 0 n) ++ cond b (n ∷ []) []) passes)

pub left-more : (p : ℕ → Bool) (n : ℕ) (found : List ℕ) → found ≡ filter p (range_with_len 0 n) → p n ≡ false → found ≡ filter p (range_with_len 0 (n + 1))
left-more p n found is fails =
    is ∙ sym (filter-more p n ∙ (ap (λ b. filter p (range_with_len 0 n) ++ cond b (n ∷ []) []) fails ∙ append-nil (filter p (range_with_len 0 n))))
