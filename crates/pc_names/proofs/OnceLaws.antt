-- Lists of codes without repetition.
use Rattle.std.proofs.Common.{◌≡◌, ◌≢◌, ℕ, ◌+◌, ◌<◌, Bool, true, false, not, nat_eq, List, [], ◌∷◌, ◌++◌, length, take, get_or, ◌⊎◌, inl, inr, sym, ap, ◌∙◌, ⊎_elim, arith, length-append}
use Rattle.std.proofs.lemmas.Bool.{cases_Bool}
use Rattle.std.proofs.lemmas.List.{get_or_append_left, get_or-take, length-take, take_more, get_or_default}
use Rattle.std.proofs.Math.Seq.{get_or-append_seam}
use Rattle.std.proofs.lemmas.List.Elements.{All-from_get_or}
use Rattle.std.proofs.lemmas.List.Folds.{list_any_at, list_any_none}
use Rattle.std.proofs.lemmas.Map.Keys.{apart_from_distinct}
use Rattle.std.proofs.lemmas.Cmp.{nat_list_eq_equiv}
use Rattle.std.specs.Cmp.Lexicographic.{pointwise, same_text}
use Rattle.std.specs.List.{list_any, IsDistinct}
use Rattle.pc_model.specs.Codes.{text_at, IsNamedOnce}

-- no code occurs twice in an empty list
pub IsNamedOnce-nil : IsNamedOnce []
IsNamedOnce-nil = λ j k before within same. omega arith

-- no code occurs twice if no two are found to be equal
pub IsNamedOnce-distinct : (codes : List (List ℕ)) → IsDistinct (pointwise nat_eq) codes → IsNamedOnce codes
IsNamedOnce-distinct codes distinct = λ j k before within same.
    let apart = apart_from_distinct (pointwise nat_eq) codes j k [] distinct before within in
    let itself : pointwise nat_eq (text_at codes j) (text_at codes k) ≡ true = rw same (nat_list_eq_equiv.refl (text_at codes k)) in
    cc

-- a code that is not among those is at none of their places
pub absent : (codes : List (List ℕ)) (code : List ℕ) (j : ℕ) → list_any (pointwise nat_eq code) codes ≡ false → j < length codes → text_at codes j ≢ code
absent codes code j new within same =
    let itself : pointwise nat_eq code (text_at codes j) ≡ true = rw same (nat_list_eq_equiv.refl code) in
    let found = list_any_at (pointwise nat_eq code) codes j [] within itself in
    cc

-- a place among the first n, or the one after them
pub inner_or_last : (k n : ℕ) → k < n + 1 → (k < n) ⊎ (k ≡ n)
inner_or_last k n h = grind arith

-- the places of codes with one more at their end
pub inner-place : (codes : List (List ℕ)) (code : List ℕ) (k : ℕ) → k < length codes → text_at (codes ++ code ∷ []) k ≡ text_at codes k
inner-place codes code k inside = get_or_append_left codes (code ∷ []) [] k inside

pub last-place : (codes : List (List ℕ)) (code : List ℕ) (k : ℕ) → k ≡ length codes → text_at (codes ++ code ∷ []) k ≡ code
last-place codes code k last = rw last (get_or-append_seam codes code [] [])

-- a new code at the end
pub IsNamedOnce-push : (codes : List (List ℕ)) (code : List ℕ) → IsNamedOnce codes → list_any (pointwise nat_eq code) codes ≡ false → IsNamedOnce (codes ++ code ∷ [])
IsNamedOnce-push codes code once new = λ j k before within same.
    let longer : length (codes ++ code ∷ []) ≡ length codes + 1 = length-append codes (code ∷ []) in
    elim (inner_or_last k (length codes) (omega arith)) [
      | inl inner ↦ once j k before inner (sym (inner-place codes code j (omega arith)) ∙ same ∙ inner-place codes code k inner)
      | inr last ↦ absent codes code j new (omega arith) (sym (inner-place codes code j (omega arith)) ∙ same ∙ last-place codes code k last)
    ]

-- each is not among those before it
pub not_before : (codes : List (List ℕ)) (k : ℕ) → IsNamedOnce codes → k < length codes → list_any (pointwise nat_eq (text_at codes k)) (take k codes) ≡ false
not_before codes k once inside =
    list_any_none (pointwise nat_eq (text_at codes k)) (take k codes)
    (All-from_get_or (λ code. pointwise nat_eq (text_at codes k) code ≡ false) (take k codes) []
    (λ j below. other j (omega (arith, length-take k codes))))
  where
    other : (j : ℕ) → j < k → pointwise nat_eq (text_at codes k) (get_or (take k codes) j []) ≡ false
    other j below =
        rw (get-taken j below) (⊎_elim
        (λ same. absurd (once j k below inside (sym (same_text (text_at codes k) (text_at codes j) (sym same)))))
        (λ differs. differs)
        (cases_Bool (pointwise nat_eq (text_at codes k) (text_at codes j))))
      where
        get-taken : (i : ℕ) → i < k → get_or (take k codes) i [] ≡ text_at codes i
        get-taken i h = get_or-take k codes i [] h

-- one more of these codes is added to those before it
pub one_more_added : (codes so_far next : List (List ℕ)) (i : ℕ) (code : List ℕ) (is_new : Bool) → IsNamedOnce codes → so_far ≡ take i codes → i < length codes
    → code ≡ get_or codes i code → is_new ≡ not (list_any (pointwise nat_eq code) so_far) → (is_new ≡ true → next ≡ so_far ++ code ∷ []) → next ≡ take (i + 1) codes
one_more_added codes so_far next i code is_new once is within at told added =
    let here : code ≡ text_at codes i = at ∙ get_or_default codes i code [] within in
    let none : list_any (pointwise nat_eq code) so_far ≡ false = rw (is, here) (not_before codes i once within) in
    added (told ∙ ap not none) ∙ (ap (λ front. front ++ code ∷ []) is ∙ (ap (λ (c : List ℕ). take i codes ++ c ∷ []) here ∙ sym (take_more codes i [] within)))
