-- The digits at the front of bytes, and the number that they spell.
use Rattle.std.proofs.Common.{◌≡◌, ℕ, ◌+◌, ◌-◌, ◌*◌, ◌^◌, ◌<◌, ◌≤◌, true, List, [], ◌∷◌, ◌++◌, length, take, drop, get_or, refl, sym, ap, ◌∙◌, arith, subst}
use Rattle.std.proofs.lemmas.List.{take_more, take-append-drop, take_all, length-drop}
use Rattle.std.proofs.lemmas.List.Folds.{list_all-append}
use Rattle.std.proofs.lemmas.Bool.Decides.{nat_tests}
use Rattle.std.specs.List.{list_all}
use Rattle.std.specs.Char.{is_ascii_digit}
use Rattle.std.specs.Fmt.{decimal}
use Rattle.pc_text.specs.Number.{value_after}
use Rattle.pc_text.specs.inside.Number.{is_unpadded, Spells}
use Rattle.pc_text.proofs.NumberLemmas.{IsLimit, spelled}
use Rattle.pc_cert.specs.inside.Number.{AreDigitsAt}
use Rattle.pc_cert.specs.inside.Lines.{IsNumberAt}
use Rattle.pc_cert.specs.declared.number.TheConstants.{MAX_DIGITS}

-- numbers of this many digits can be read
pub limit : IsLimit MAX_DIGITS
limit = record { some = omega arith; fits = omega arith }

value_after-more : (n : ℕ) (ds : List ℕ) (d : ℕ) → value_after n (ds ++ d ∷ []) ≡ value_after n ds * 10 + (d - 48)
value_after-more n [] d = refl
value_after-more n (x ∷ ds) d = value_after-more (n * 10 + (x - 48)) ds d

pub digit_limit : (byte : ℕ) → is_ascii_digit byte ≡ true → byte ≤ 57
digit_limit byte digit = grind (arith, nat_tests)

pub is_digit : (byte : ℕ) → 48 ≤ byte → byte ≤ 57 → is_ascii_digit byte ≡ true
is_digit byte low high = grind (arith, nat_tests)

-- the digits so far, and a bound of their value
pub record AreSoFar (bytes : List ℕ) (number count : ℕ) : Type 0 where
  pub few : count ≤ 18
  pub small : number < 10 ^ count
  pub digits : list_all is_ascii_digit (take count bytes) ≡ true
  pub value : number ≡ value_after 0 (take count bytes)

pub digits_more : (bytes : List ℕ) (number count : ℕ) (byte : ℕ) → AreSoFar bytes number count → count < 18 → count < length bytes →
    byte ≡ get_or bytes count 0 → is_ascii_digit byte ≡ true → number * 10 + (byte - 48) < 10 ^ (count + 1)
    → AreSoFar bytes (number * 10 + (byte - 48)) (count + 1)
digits_more bytes number count byte are few below here digit small =
    let longer : take (count + 1) bytes ≡ take count bytes ++ byte ∷ [] = take_more bytes count 0 below ∙ ap (λ b. take count bytes ++ b ∷ []) (sym here) in
    record {
      few = omega arith;
      small = small;
      digits = ap (list_all is_ascii_digit) longer ∙ list_all-append is_ascii_digit (take count bytes) (byte ∷ []) ∙ rw (are.digits, digit) refl;
      value = ap (λ n. n * 10 + (byte - 48)) are.value ∙ sym (value_after-more 0 (take count bytes) byte) ∙ sym (ap (value_after 0) longer);
    }

-- digits that are not padded are the decimal form of their value
pub digits_spell : (bytes : List ℕ) (number count : ℕ) → AreDigitsAt bytes number count → is_unpadded 18 (take count bytes) ≡ true → Spells 18 (take count bytes) number
digits_spell bytes number count are plain =
    let digits : list_all is_ascii_digit (take count bytes) ≡ true = are.digits in
    subst (Spells 18 (take count bytes)) (sym are.value) (spelled 18 (take count bytes) limit (record {
      some = grind (arith, nat_tests);
      short = grind (arith, nat_tests);
      digits = digits;
      plain = grind (arith, nat_tests);
    }))

-- a slice up to the end is all that is left
pub rest_is : (n : ℕ) (piece : List ℕ) → take (length piece - n) (drop n piece) ≡ drop n piece
rest_is n piece = take_all (length piece - n) (drop n piece) (omega (arith, length-drop n piece))

-- the bytes after a space
pub behind_space : (bytes : List ℕ) → 0 < length bytes → get_or bytes 0 0 ≡ 32 → bytes ≡ 32 ∷ take (length bytes - 1) (drop 1 bytes)
behind_space [] some is = absurd (omega arith)
behind_space (b ∷ bs) some is = ap (λ x. x ∷ bs) is ∙ ap (λ t. 32 ∷ t) (sym (rest_is 1 (b ∷ bs)))

-- after a space come digits that are not padded, and the rest
pub number_is : (bytes rest behind : List ℕ) (number count : ℕ) → bytes ≡ 32 ∷ rest → AreDigitsAt rest number count → is_unpadded 18 (take count rest) ≡ true →
    behind ≡ take (length rest - count) (drop count rest) → IsNumberAt bytes number behind
number_is bytes rest behind number count spaced_is are plain is =
    let spells = digits_spell rest number count are plain in
    let whole : rest ≡ decimal number ++ behind =
    sym (take-append-drop count rest) ∙ ap (λ word. word ++ drop count rest) (spells.1) ∙ ap (λ t. decimal number ++ t) (sym (is ∙ rest_is count rest)) in
    record { text = spaced_is ∙ ap (λ t. 32 ∷ t) whole; small = spells.0 }
