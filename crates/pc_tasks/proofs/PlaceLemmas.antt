-- Where a code is in a list of codes.
use Rattle.std.proofs.Common.{◌≡◌, ◌≢◌, ℕ, zero, suc, ◌+◌, ◌<◌, ◌≤◌, Bool, true, false, cond, nat_eq, List, [], ◌∷◌, ◌++◌, length, Some, None, refl, sym, ◌∙◌, ap, subst, arith}
use Rattle.std.specs.Prelude.{IsSome, nat_lt, not}
use Rattle.std.specs.Cmp.Lexicographic.{pointwise, bytes_decides}
use Rattle.std.specs.List.{position_or_len}
use Rattle.std.proofs.lemmas.Bool.{cond-true, false≢true, false_from_ne_true, lt-ltb}
use Rattle.std.proofs.lemmas.List.{get_or_append_left, length-append}
use Rattle.std.proofs.lemmas.List.Quantifiers.{position-Some}
use Rattle.pc_model.specs.Codes.{text_at, IsNamedOnce}
use Rattle.pc_deck.specs.Deck.{named_among}
use Rattle.pc_project.proofs.NumberLaws.{found_at}

is_same : (code other : List ℕ) → other ≡ code → pointwise nat_eq code other ≡ true
is_same code other same = (bytes_decides code other).1 (sym same)

is_other : (code other : List ℕ) → other ≢ code → pointwise nat_eq code other ≡ false
is_other code other differs = false_from_ne_true (pointwise nat_eq code other) (λ same. differs (sym ((bytes_decides code other).0 same)))

first_place : (code : List ℕ) (codes : List (List ℕ)) (k : ℕ) → k < length codes → text_at codes k ≡ code →
    ((j : ℕ) → j < k → text_at codes j ≢ code) → position_or_len (pointwise nat_eq code) codes ≡ k
first_place code [] k inside is before = absurd (omega arith)
first_place code (c ∷ cs) zero inside is before = ap (λ b. cond (not b) (1 + position_or_len (pointwise nat_eq code) cs) 0) (is_same code c is)
first_place code (c ∷ cs) (suc k) inside is before =
    ap (λ b. cond (not b) (1 + position_or_len (pointwise nat_eq code) cs) 0) (is_other code c (before 0 (omega arith)))
    ∙ (ap (λ n. 1 + n) (first_place code cs k (omega arith) is (λ j below. before (suc j) (omega arith))) ∙ omega arith)

-- a code is at its first place
pub first_place-is : (code : List ℕ) (codes : List (List ℕ)) (k : ℕ) → k < length codes → text_at codes k ≡ code → ((j : ℕ) → j < k → text_at codes j ≢ code) → named_among codes code ≡ Some k
first_place-is code codes k inside is before =
    ap (λ n. cond (nat_lt n (length codes)) (Some n) None) (first_place code codes k inside is before)
    ∙ cond-true (nat_lt k (length codes)) (Some k) None (lt-ltb k (length codes) inside)

-- if no code occurs twice, at the only one
pub only_place-is : (code : List ℕ) (codes : List (List ℕ)) (k : ℕ) → IsNamedOnce codes → k < length codes → text_at codes k ≡ code → named_among codes code ≡ Some k
only_place-is code codes k once inside is = first_place-is code codes k inside is (λ j before same. once j k before inside (same ∙ sym is))

-- it is found at the same place if more codes follow
pub found-before : (code : List ℕ) (codes more : List (List ℕ)) → IsSome (named_among codes code) → named_among (codes ++ more) code ≡ named_among codes code
found-before code codes more known =
    let (i, at) = found_at (named_among codes code) known in
    let (inside, passes, before) = position-Some (pointwise nat_eq code) codes i [] at in
    first_place-is code (codes ++ more) i (omega (arith, length-append codes more, inside))
    (get_or_append_left codes more [] i inside ∙ sym ((bytes_decides code (text_at codes i)).0 passes))
    (λ j below same. false≢true (sym (before j below) ∙ is_same code (text_at codes j) (sym (get_or_append_left codes more [] j (omega (arith, below, inside))) ∙ same)))
    ∙ sym at

-- a code that is in the list is found
place-below : (code : List ℕ) (codes : List (List ℕ)) (k : ℕ) → k < length codes → text_at codes k ≡ code → position_or_len (pointwise nat_eq code) codes ≤ k
place-below code [] k inside is = absurd (omega (arith, inside))
place-below code (c ∷ cs) zero inside is = omega (arith, ap (λ b. cond (not b) (1 + position_or_len (pointwise nat_eq code) cs) 0) (is_same code c is))
place-below code (c ∷ cs) (suc k) inside is = by (pointwise nat_eq code c) refl (place-below code cs k (omega (arith, inside)) is)
  where
    by : (test : Bool) → pointwise nat_eq code c ≡ test → position_or_len (pointwise nat_eq code) cs ≤ k → position_or_len (pointwise nat_eq code) (c ∷ cs) ≤ suc k
    by true at rest = omega (arith, ap (λ b. cond (not b) (1 + position_or_len (pointwise nat_eq code) cs) 0) at)
    by false at rest = omega (arith, ap (λ b. cond (not b) (1 + position_or_len (pointwise nat_eq code) cs) 0) at, rest)

pub found-there : (code : List ℕ) (codes : List (List ℕ)) (k : ℕ) → k < length codes → text_at codes k ≡ code → IsSome (named_among codes code)
found-there code codes k inside is =
    let at = position_or_len (pointwise nat_eq code) codes in
    let some : named_among codes code ≡ Some at = cond-true (nat_lt at (length codes)) (Some at) None (lt-ltb at (length codes) (omega (arith, place-below code codes k inside is, inside))) in
    subst IsSome (sym some) refl
