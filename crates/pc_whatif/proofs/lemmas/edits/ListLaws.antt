-- The last elements of a list, and one more after them.
use Rattle.std.proofs.Common.{◌≡◌, ℕ, ◌+◌, ◌-◌, ◌≤◌, min, List, [], ◌∷◌, ◌++◌, length, take, drop, get_or, Some}
use Rattle.std.proofs.Common.{sym, ◌∙◌, ap, ⊎_elim, arith, length-append, length-drop, drop-drop, take_at}
use Rattle.std.proofs.lemmas.Bool.{cases_lt}
use Rattle.std.proofs.lemmas.List.{drop-append-le, take_more, take_all}
use Rattle.std.proofs.lemmas.Option.{get_or_from_slice_get}
use Rattle.circular_buffer.specs.Buffer.{keep_last, last_item}
use Rattle.circular_buffer.proofs.Places.{slice_get-last}

module _ {X : Type 0} where
  pub length-push : (xs : List X) (x : X) → length (xs ++ x ∷ []) ≡ length xs + 1
  length-push xs x = length-append xs (x ∷ [])

  pub length-keep_last : (n : ℕ) (xs : List X) → n ≤ length xs → length (keep_last n xs) ≡ n
  length-keep_last n xs few = omega (arith, length-drop (length xs - n) xs)

  -- the last n + 1 with one more after them are the last n and that one
  pub keep_last-push : (n : ℕ) (xs : List X) (x : X) → keep_last (n + 1) (xs ++ x ∷ []) ≡ keep_last n xs ++ x ∷ []
  keep_last-push n xs x =
      let from : length (xs ++ x ∷ []) - (n + 1) ≡ length xs - n = omega (arith, length-push xs x) in
      ap (λ k. drop k (xs ++ x ∷ [])) from ∙ drop-append-le (length xs - n) xs (x ∷ []) (omega arith)

  -- the last n of the last k
  pub keep_last-keep_last : (n k : ℕ) (xs : List X) → k ≤ length xs → keep_last n (keep_last k xs) ≡ keep_last (min n k) xs
  keep_last-keep_last n k xs few =
      let long = length-keep_last k xs few in
      drop-drop (length (keep_last k xs) - n) (length xs - k) xs
      ∙ ap (λ m. drop m xs) (⊎_elim (λ less. omega (arith, long, less)) (λ more. omega (arith, long, more)) (cases_lt n k))

  -- the last of a list with one more after it, and those before it
  pub last_item-push : (xs : List X) (x : X) → last_item (xs ++ x ∷ []) ≡ Some x
  last_item-push xs x = slice_get-last xs x (length (xs ++ x ∷ []) - 1) (omega (arith, length-push xs x))

  pub front-push : (xs : List X) (x : X) → take (length (xs ++ x ∷ []) - 1) (xs ++ x ∷ []) ≡ xs
  front-push xs x = take_at xs (x ∷ []) (length (xs ++ x ∷ []) - 1) (omega (arith, length-push xs x))

  -- a list that has a last element
  pub last_item-some : (xs : List X) (x : X) → last_item xs ≡ Some x → xs ≡ take (length xs - 1) xs ++ x ∷ []
  last_item-some [] x e = absurd cc
  last_item-some (y ∷ ys) x e =
      let at : get_or (y ∷ ys) (length (y ∷ ys) - 1) y ≡ x = get_or_from_slice_get (y ∷ ys) (length (y ∷ ys) - 1) x y e in
      sym (take_all (length (y ∷ ys) - 1 + 1) (y ∷ ys) (omega arith))
      ∙ take_more (y ∷ ys) (length (y ∷ ys) - 1) y (omega arith)
      ∙ ap (λ z. take (length (y ∷ ys) - 1) (y ∷ ys) ++ z ∷ []) at
