-- The place of a code among others.
use Rattle.std.proofs.Common.{◌≡◌, ◌≢◌, ℕ, ◌<◌, ◌≤◌, Bool, true, false, nat_eq, List, [], length, Some, None, ◌⊎◌, refl, sym, ◌∙◌, ap, ⊎_elim, arith}
use Rattle.std.specs.Prelude.{is_some}
use Rattle.std.proofs.lemmas.Bool.{cases_Bool, lt-ltb, le-ltb}
use Rattle.std.proofs.lemmas.List.Folds.{list_any_at, Any-from_list_any}
use Rattle.std.proofs.lemmas.List.Quantifiers.{position-Some}
use Rattle.std.proofs.lemmas.List.Sums.{position_or_len_is, fails_before_first}
use Rattle.std.proofs.lemmas.Cmp.{nat_list_eq_equiv}
use Rattle.std.specs.Cmp.Lexicographic.{pointwise, same_text}
use Rattle.std.specs.List.{list_any, position, position_or_len}
use Rattle.pc_model.specs.Codes.{text_at, IsNamedOnce}
use Rattle.pc_names.proofs.OnceLaws.{absent}

module _ (codes : List (List ℕ)) (code : List ℕ) where
  abbrev is : List ℕ → Bool
  is = pointwise nat_eq code

  -- a code that is not the one is found not to be
  differs : (a : ℕ) → text_at codes a ≢ code → is (text_at codes a) ≡ false
  differs a other =
      ⊎_elim (λ same. absurd (other (sym (same_text code (text_at codes a) (sym same))))) (λ h. h) (cases_Bool (is (text_at codes a)))

  -- the only place of a code is where it is found
  pub position-named : (a : ℕ) → IsNamedOnce codes → a < length codes → text_at codes a ≡ code → position is codes ≡ Some a
  position-named a once inside same =
      let at : position_or_len is codes ≡ a =
      position_or_len_is is codes a [] (omega arith)
      (λ k below. differs k (λ too. once k a below inside (too ∙ sym same)))
      (λ _. ap is same ∙ nat_list_eq_equiv.refl code) in
      rw (at, lt-ltb a (length codes) inside) refl

  -- a code that is nowhere is not found
  pub position-unknown : ((a : ℕ) → a < length codes → text_at codes a ≢ code) → position is codes ≡ None
  position-unknown nowhere =
      let at : position_or_len is codes ≡ length codes =
      position_or_len_is is codes (length codes) [] (omega arith) (λ k below. differs k (nowhere k below)) (λ past. absurd (omega arith)) in
      rw (at, le-ltb (length codes) (length codes) (omega arith)) refl

  -- the place where a code is found has it
  pub code-found : (a : ℕ) → position is codes ≡ Some a → (a < length codes) × (text_at codes a ≡ code)
  code-found a found =
      let at = position-Some is codes a [] found in
      (at.0, sym (same_text code (text_at codes a) (sym at.1)))

  -- one that is not among them is not found
  position-absent : list_any is codes ≡ false → position is codes ≡ None
  position-absent new = position-unknown (λ a inside. absent codes code a new inside)

  -- one that is among them is found at a place
  first_within : list_any is codes ≡ true → position_or_len is codes < length codes
  first_within known =
      let (k, other, inside, at, passes) = Any-from_list_any is codes known in
      ⊎_elim
      (λ before. absurd (let fails = fails_before_first is codes k other before in let clash : true ≡ false = sym passes ∙ ap is (sym at) ∙ fails in cc))
      (λ first. omega arith)
      (before_or_not k (position_or_len is codes))
    where
      before_or_not : (i n : ℕ) → (i < n) ⊎ (n ≤ i)
      before_or_not i n = grind arith

  -- it is found exactly where it is among them
  pub is_some-position : is_some (position is codes) ≡ list_any is codes
  is_some-position = by (list_any is codes) refl
    where
      by : (test : Bool) → list_any is codes ≡ test → is_some (position is codes) ≡ list_any is codes
      by false new = ap is_some (position-absent new) ∙ sym new
      by true known = rw (lt-ltb (position_or_len is codes) (length codes) (first_within known)) (sym known)

  -- a code that is not found is at no place
  pub code-missing : position is codes ≡ None → (a : ℕ) → a < length codes → text_at codes a ≢ code
  code-missing none a inside same =
      let itself : is (text_at codes a) ≡ true = rw same (nat_list_eq_equiv.refl code) in
      let known = list_any_at is codes a [] inside itself in
      let found : is_some (position is codes) ≡ true = is_some-position ∙ known in
      absurd (let clash : is_some (position is codes) ≡ false = ap is_some none in cc)
