-- Elements of a list, and lists of the numbers below a bound that have a property.
use Rattle.std.proofs.Common.{◌≡◌, ℕ, ◌+◌, ◌<◌, ◌≤◌, zero, suc, List, [], ◌∷◌, ◌++◌, length, slice_index, take, Bool, true}
use Rattle.std.proofs.Common.{false, cond, eqb, refl, sym, ◌∙◌, ap, subst, ⊎_elim, arith, eq-eqb, add-zero, length-take}
use Rattle.std.proofs.lemmas.Bool.{cases_eq, ne_eqb}
use Rattle.std.proofs.lemmas.List.{get_or_append_left, get_or_push, length_push, take_more, take_all, append-nil}
use Rattle.pc_model.specs.Greatest.{StandsBelow, places}
use Rattle.pc_model.specs.inside.Greatest.{IsListed}

-- an element among the first n is among more of them
pub StandsBelow-more : (xs : List ℕ) (n m v : ℕ) → StandsBelow xs n v → n ≤ m → StandsBelow xs m v
StandsBelow-more xs n m v stands le = (stands.0, omega (arith, stands.1), stands.2)

-- it is still there after one more is appended
pub StandsBelow-push : (xs : List ℕ) (y n v : ℕ) → StandsBelow xs n v → n ≤ length xs → StandsBelow (xs ++ y ∷ []) n v
StandsBelow-push xs y n v stands le =
    (stands.0, stands.1, get_or_append_left xs (y ∷ []) 0 stands.0 (omega (arith, stands.1)) ∙ stands.2)

-- an element of the front of a list was there before one more was appended
pub StandsBelow-unpush : (xs : List ℕ) (y n v : ℕ) → StandsBelow (xs ++ y ∷ []) n v → n ≤ length xs → StandsBelow xs n v
StandsBelow-unpush xs y n v stands le =
    (stands.0, stands.1, sym (get_or_append_left xs (y ∷ []) 0 stands.0 (omega (arith, stands.1))) ∙ stands.2)

-- what is appended to a list is in it
pub StandsBelow-last : (xs : List ℕ) (y : ℕ) → StandsBelow (xs ++ y ∷ []) (length (xs ++ y ∷ [])) y
StandsBelow-last xs y = (length xs, omega (arith, length_push xs y), get_or_push xs y 0 (length xs) refl)

-- nothing is below 0
pub IsListed-none : (P : ℕ → Type 0) → IsListed P 0 []
IsListed-none P = record {
  each = λ k below. absurd (omega arith);
  every = λ v below. absurd (omega arith);
  rising = λ j k before below. absurd (omega arith);
}

-- the bound itself has the property, and is appended to the list
pub IsListed-push : (P : ℕ → Type 0) (n : ℕ) (xs : List ℕ) → IsListed P n xs → P n → IsListed P (n + 1) (xs ++ n ∷ [])
IsListed-push P n xs listed holds = record {
  each = λ k below. ⊎_elim
      (λ same. (omega (arith, at_end k same), subst P (sym (at_end k same)) holds))
      (λ other. let front : k < length xs = omega (arith, length_push xs n) in
      (omega (arith, in_front k front, (listed.each k front).0), subst P (sym (in_front k front)) (listed.each k front).1))
      (cases_eq k (length xs));
  every = λ v below holds_v. ⊎_elim
      (λ same. (length xs, omega (arith, length_push xs n), at_end (length xs) refl ∙ sym same))
      (λ other. let stands = listed.every v (omega arith) holds_v in
      (stands.0, omega (arith, stands.1, length_push xs n), in_front stands.0 stands.1 ∙ stands.2))
      (cases_eq v n);
  rising = λ j k before below. ⊎_elim
      (λ same. let front : j < length xs = omega arith in omega (arith, at_end k same, in_front j front, (listed.each j front).0))
      (λ other. let front : k < length xs = omega (arith, length_push xs n) in
      omega (arith, in_front j (omega arith), in_front k front, listed.rising j k before front))
      (cases_eq k (length xs));
}
  where
    in_front : (k : ℕ) → k < length xs → slice_index (xs ++ n ∷ []) k ≡ slice_index xs k
    in_front k below = get_or_append_left xs (n ∷ []) 0 k below

    at_end : (k : ℕ) → k ≡ length xs → slice_index (xs ++ n ∷ []) k ≡ n
    at_end k same = get_or_push xs n 0 k (sym same)

-- the bound does not have the property, and the list stays
pub IsListed-keep : (P : ℕ → Type 0) (n : ℕ) (xs : List ℕ) → IsListed P n xs → (P n → ⊥) → IsListed P (n + 1) xs
IsListed-keep P n xs listed fails = record {
  each = λ k below. (omega (arith, (listed.each k below).0), (listed.each k below).1);
  every = λ v below holds_v. ⊎_elim
      (λ same. absurd (fails (subst P same holds_v)))
      (λ other. listed.every v (omega arith) holds_v)
      (cases_eq v n);
  rising = listed.rising;
}

-- the same numbers are listed under a property that holds of the same numbers
pub IsListed-same : (P Q : ℕ → Type 0) (n : ℕ) (xs : List ℕ) → IsListed P n xs → ((v : ℕ) → v < n → P v → Q v) → ((v : ℕ) → v < n → Q v → P v) → IsListed Q n xs
IsListed-same P Q n xs listed there back = record {
  each = λ k below. ((listed.each k below).0, there (slice_index xs k) (listed.each k below).0 (listed.each k below).1);
  every = λ v below holds. listed.every v below (back v below holds);
  rising = listed.rising;
}

front-append : (b : Bool) (i : ℕ) (xs ys : List ℕ) → cond b (i ∷ (xs ++ ys)) (xs ++ ys) ≡ cond b (i ∷ xs) xs ++ ys
front-append true i xs ys = refl
front-append false i xs ys = refl

-- the places in a list and one more element
pub places-push : (x i : ℕ) (ys : List ℕ) (y : ℕ) → places x i (ys ++ y ∷ []) ≡ places x i ys ++ cond (eqb y x) ((i + length ys) ∷ []) []
places-push x i [] y = ap (λ n. cond (eqb y x) (n ∷ []) []) (sym (add-zero i))
places-push x i (z ∷ ys) y =
    ap (λ s. cond (eqb z x) (i ∷ s) s) (places-push x (i + 1) ys y)
    ∙ front-append (eqb z x) i (places x (i + 1) ys) (cond (eqb y x) (((i + 1) + length ys) ∷ []) [])
    ∙ ap (λ n. places x i (z ∷ ys) ++ cond (eqb y x) (n ∷ []) []) (omega arith)

-- the places of x among the first n of a list are listed
pub IsListed-places_front : (x : ℕ) (ys : List ℕ) (n : ℕ) → n ≤ length ys → IsListed (λ k. slice_index ys k ≡ x) n (places x 0 (take n ys))
IsListed-places_front x ys zero within = IsListed-none _
IsListed-places_front x ys (suc n) within =
    let P : ℕ → Type 0 = λ k. slice_index ys k ≡ x in
    let y = slice_index ys n in
    let before = IsListed-places_front x ys n (omega arith) in
    let more : places x 0 (take (n + 1) ys) ≡ places x 0 (take n ys) ++ cond (eqb y x) (n ∷ []) [] =
    ap (places x 0) (take_more ys n 0 (omega arith)) ∙ places-push x 0 (take n ys) y ∙ ap (λ k. places x 0 (take n ys) ++ cond (eqb y x) (k ∷ []) []) (omega (arith, length-take n ys)) in
    let after : IsListed P (n + 1) (places x 0 (take (n + 1) ys)) = ⊎_elim
    (λ is. subst (IsListed P (n + 1)) (sym (more ∙ ap (λ b. places x 0 (take n ys) ++ cond b (n ∷ []) []) (eq-eqb y x is))) (IsListed-push P n _ before is))
    (λ isnt. subst (IsListed P (n + 1)) (sym (more ∙ ap (λ b. places x 0 (take n ys) ++ cond b (n ∷ []) []) (ne_eqb y x isnt) ∙ append-nil _)) (IsListed-keep P n _ before isnt))
    (cases_eq y x) in
    subst (λ m. IsListed P m (places x 0 (take m ys))) (omega arith) after

-- the places of x in a list are listed
pub IsListed-places : (x : ℕ) (ys : List ℕ) → IsListed (λ k. slice_index ys k ≡ x) (length ys) (places x 0 ys)
IsListed-places x ys =
    subst (λ zs. IsListed (λ k. slice_index ys k ≡ x) (length ys) (places x 0 zs)) (take_all (length ys) ys (omega arith)) (IsListed-places_front x ys (length ys) (omega arith))
