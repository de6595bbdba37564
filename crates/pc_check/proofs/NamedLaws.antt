-- The activity with a code is the first index of the code among the codes of the activities.
use Rattle.std.proofs.Common.{◌≡◌, ◌≢◌, ℕ, ◌+◌, ◌<◌, zero, suc, true, false, List, [], ◌∷◌, length, Option, Some, None, refl, sym, ap, ◌∙◌, arith}
use Rattle.std.proofs.lemmas.Bool.{false_from_ne_true}
use Rattle.std.proofs.lemmas.Slice.Eq.{bytes_eq-Decides}
use Rattle.std.specs.Prelude.{bytes_eq, IfSome, IfNone}
use Rattle.pc_model.specs.Codes.{text_at}
use Rattle.pc_crash.specs.inside.Priced.{AreNames}
use Rattle.pc_check.specs.Walks.{index_of}

same_code : (c code : List ℕ) → c ≡ code → bytes_eq c code ≡ true
same_code c code h = (bytes_eq-Decides c code).1 h

other_code : (c code : List ℕ) → c ≢ code → bytes_eq c code ≡ false
other_code c code h = false_from_ne_true (bytes_eq c code) (λ e. h ((bytes_eq-Decides c code).0 e))

-- a code that is at no index has none
none_named : (code : List ℕ) (i : ℕ) (codes : List (List ℕ)) → ((a : ℕ) → a < length codes → text_at codes a ≢ code) → index_of code i codes ≡ None
none_named code i [] h = refl
none_named code i (c ∷ cs) h = rw (other_code c code (h 0 (omega arith))) (none_named code (i + 1) cs (λ a lt. h (suc a) (omega arith)))

-- a code that is at one index, and at none before it, has this one
first_named : (code : List ℕ) (i a : ℕ) (codes : List (List ℕ)) → a < length codes → text_at codes a ≡ code → ((j : ℕ) → j < a → text_at codes j ≢ code) → index_of code i codes ≡ Some (i + a)
first_named code i a [] lt is before = absurd (omega arith)
first_named code i zero (c ∷ cs) lt is before = rw (same_code c code is) (ap Some (omega arith))
first_named code i (suc a) (c ∷ cs) lt is before =
    rw (other_code c code (before 0 (omega arith))) (first_named code (i + 1) a cs (omega arith) is (λ j l. before (suc j) (omega arith)) ∙ ap Some (omega arith))

-- what a search for a code gave, if no code occurs twice
pub named_is_index : (found : Option ℕ) (code : List ℕ) {n : ℕ} {codes : List (List ℕ)} → AreNames n codes →
    IfSome found (λ a. a < n) → IfSome found (λ a. text_at codes a ≡ code) → IfNone found ((a : ℕ) → a < n → text_at codes a ≢ code) →
    found ≡ index_of code 0 codes
named_is_index None code {n} {codes} names known named unknown = sym (none_named code 0 codes (λ a lt. unknown a (omega (arith, lt, names.one_each))))
named_is_index (Some a) code {n} {codes} names known named unknown =
    let all = names.one_each in
    sym (first_named code 0 a codes (omega arith) named (λ j lt same. names.once j a lt (omega arith) (same ∙ sym named)) ∙ ap Some (omega arith))
