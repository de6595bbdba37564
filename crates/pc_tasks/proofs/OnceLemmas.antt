-- Generated codes occur once.
use Rattle.std.proofs.Common.{◌≡◌, ◌≢◌, ℕ, ◌-◌, ◌^◌, ◌<◌, ◌≤◌, List, [], ◌++◌, length, map, slice_index, refl, sym, ◌∙◌, ⊎_elim, arith}
use Rattle.std.specs.Prelude.{All}
use Rattle.std.specs.List.{range_with_len}
use Rattle.std.proofs.lemmas.Bool.{cases_lt}
use Rattle.std.proofs.lemmas.List.{get_or_append_left, get_or-append_right, get_or-map, length-append, length-map}
use Rattle.std.proofs.lemmas.List.FromFn.{get_or-range_with_len, length-range_with_len}
use Rattle.pc_tasks.proofs.lemmas.network.Kept.{AreOnce}
use Rattle.pc_model.specs.Codes.{text_at, IsNamedOnce}
use Rattle.pc_tasks.specs.Codes.{drawn_code}
use Rattle.pc_tasks.proofs.CodeLemmas.{drawn_code-letter, drawn_code-number}

-- no code of the one list is one of the other
abbrev pub AreApart : List (List ℕ) → List (List ℕ) → Type 0
AreApart xs ys = (j k : ℕ) → j < length xs → k < length ys → text_at xs j ≢ text_at ys k

-- two lists, one after the other
pub once-append : (xs ys : List (List ℕ)) → IsNamedOnce xs → IsNamedOnce ys → AreApart xs ys → IsNamedOnce (xs ++ ys)
once-append xs ys once_xs once_ys apart j k before inside same =
    ⊎_elim
    (λ k_in. once_xs j k before k_in (sym (left j (omega (arith, before, k_in))) ∙ (same ∙ left k k_in)))
    (λ k_past. ⊎_elim
    (λ j_in. apart j (k - length xs) j_in (omega (arith, k_past, inside, length-append xs ys)) (sym (left j j_in) ∙ (same ∙ right k k_past)))
    (λ j_past. once_ys (j - length xs) (k - length xs) (omega (arith, before, j_past)) (omega (arith, k_past, inside, length-append xs ys)) (sym (right j j_past) ∙ (same ∙ right k k_past)))
    (cases_lt j (length xs)))
    (cases_lt k (length xs))
  where
    left : (i : ℕ) → i < length xs → text_at (xs ++ ys) i ≡ text_at xs i
    left i within = get_or_append_left xs ys [] i within

    right : (i : ℕ) → length xs ≤ i → text_at (xs ++ ys) i ≡ text_at ys (i - length xs)
    right i past = get_or-append_right xs ys (length xs) i [] refl past

-- lists that are apart from two are apart from both
pub apart-append : (xs ys zs : List (List ℕ)) → AreApart xs ys → AreApart xs zs → AreApart xs (ys ++ zs)
apart-append xs ys zs from_ys from_zs j k j_in k_in same =
    ⊎_elim
    (λ first. from_ys j k j_in first (same ∙ get_or_append_left ys zs [] k first))
    (λ past. from_zs j (k - length ys) j_in (omega (arith, past, k_in, length-append ys zs)) (same ∙ get_or-append_right ys zs (length ys) k [] refl past))
    (cases_lt k (length ys))

module _ (l : ℕ) (xs : List ℕ) where
  -- the code at a place
  pub drawn_at : (k : ℕ) → k < length xs → text_at (map (drawn_code l) xs) k ≡ drawn_code l (slice_index xs k)
  drawn_at k inside = get_or-map (drawn_code l) xs k 0 [] inside

  -- numbers that occur once
  pub drawn-once : AreOnce xs → All (λ i. i < 2 ^ 32) xs → IsNamedOnce (map (drawn_code l) xs)
  drawn-once once small j k before inside same =
      let k_in : k < length xs = omega (arith, inside, length-map xs (drawn_code l)) in
      let j_in : j < length xs = omega (arith, before, k_in) in
      once j k before k_in
      (drawn_code-number l l (slice_index xs j) (slice_index xs k) (small j 0 j_in) (small k 0 k_in) (sym (drawn_at j j_in) ∙ (same ∙ drawn_at k k_in)))

-- two letters
pub letters-apart : (l m : ℕ) (xs ys : List ℕ) → l ≢ m → AreApart (map (drawn_code l) xs) (map (drawn_code m) ys)
letters-apart l m xs ys differ j k j_in k_in same =
    let j_at = drawn_at l xs j (omega (arith, j_in, length-map xs (drawn_code l))) in
    let k_at = drawn_at m ys k (omega (arith, k_in, length-map ys (drawn_code m))) in
    differ (drawn_code-letter l m (slice_index xs j) (slice_index ys k) (sym j_at ∙ (same ∙ k_at)))

-- the numbers of a range
pub range-once : (n : ℕ) → AreOnce (range_with_len 0 n)
range-once n j k before inside same =
    let k_in : k < n = omega (arith, inside, length-range_with_len 0 n) in
    let j_is = get_or-range_with_len 0 n j 0 (omega (arith, before, k_in)) in
    let k_is = get_or-range_with_len 0 n k 0 k_in in
    omega (arith, before, same, j_is, k_is)
