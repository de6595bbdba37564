-- The numbers that fields spell, and their decimal forms.
use Rattle.std.proofs.Common.{◌≡◌, ℕ, ◌+◌, ◌-◌, ◌*◌, ◌^◌, ◌<◌, ◌≤◌, true, List, length, get_or, Some}
use Rattle.std.proofs.Common.{Option, None, IfSome, refl, sym, ap, subst, arith, rules, zero, suc, add-one}
use Rattle.std.proofs.Math.Nat.{pow-suc, pow-le-pow_right}
use Rattle.std.proofs.lemmas.Bool.Decides.{nat_tests}
use Rattle.std.proofs.lemmas.Option.{cond_some}
use Rattle.std.proofs.lemmas.Str.Parse.{IsNumeralModel, numerals_by_fold, digits_value_short}
use Rattle.std.proofs.lemmas.Fmt.{digits_decimal, digits_value-decimal, decimal-digits_value, length-decimal-le, decimal_nonempty, first_decimal, decimal_digit}
use Rattle.std.specs.List.{list_all}
use Rattle.std.specs.Char.{is_ascii_digit}
use Rattle.std.specs.Fmt.{decimal}
use Rattle.pc_text.specs.declared.number.TheConstants.{DECK_DIGITS}
use Rattle.pc_text.specs.Number.{is_numeral, value_after, numeral_of}
use Rattle.pc_text.specs.inside.Number.{is_number, Spells, IsDecimal}

-- the tests and the value here are std's digits and their value
pub own : IsNumeralModel (λ ds. list_all is_ascii_digit ds ≡ true) (value_after 0)
own = numerals_by_fold _ (search rules) value_after (search rules)

-- one more digit makes a number at most one digit longer
pub longer : (n digit i : ℕ) → n < 10 ^ i → digit ≤ 57 → n * 10 + (digit - 48) < 10 ^ (i + 1)
longer n digit i small h = rw (add-one, pow-suc) (omega arith)

-- a number of fewer than 19 digits is below 10 ^ 18
pub below_18_digits : (n i : ℕ) → n < 10 ^ i → i < 19 → n < 10 ^ 18
below_18_digits n i small h =
    let positive : 0 < 10 = omega arith in
    let within : i ≤ 18 = omega arith in
    omega (arith, pow-le-pow_right positive within)

-- a number of digits with which every value fits in 64 bits
pub record IsLimit (most : ℕ) : Type 0 where
  pub some : 1 ≤ most
  pub fits : most ≤ 19

in_64_bits : (most n : ℕ) → IsLimit most → n < 10 ^ most → n < 2 ^ 64
in_64_bits most n limit small =
    let positive : 0 < 10 = omega arith in
    omega (arith, small, pow-le-pow_right positive limit.fits)

-- the parts of the test
pub record IsDigits (most : ℕ) (word : List ℕ) : Type 0 where
  pub some : 1 ≤ length word
  pub short : length word ≤ most
  pub digits : list_all is_ascii_digit word ≡ true
  pub plain : get_or word 0 0 ≡ 48 → length word ≡ 1

parts : (most : ℕ) (word : List ℕ) → is_numeral most word ≡ true → IsDigits most word
parts most word h = record {
  some = grind (arith, nat_tests);
  short = grind (arith, nat_tests);
  digits = grind (arith, nat_tests);
  plain = grind (arith, nat_tests);
}

joined : (most : ℕ) (word : List ℕ) → IsDigits most word → is_numeral most word ≡ true
joined most word p =
    let some = p.some in let short = p.short in let digits = p.digits in let plain = p.plain in
    grind (arith, nat_tests)

-- the value of a word of digits
pub spelled : (most : ℕ) (word : List ℕ) → IsLimit most → IsDigits most word → Spells most word (value_after 0 word)
spelled most word limit p =
    let small = digits_value_short own word most p.digits p.short in
    (small, sym (decimal-digits_value own word p.digits p.some p.plain (in_64_bits most _ limit small)))

-- a number that is read is written so
pub number_takes : (most : ℕ) (word : List ℕ) (n : ℕ) → IsLimit most → numeral_of most word ≡ Some n → Spells most word n
number_takes most word n limit h =
    let read = cond_some (is_numeral most word) (value_after 0 word) n h in
    subst (Spells most word) (read.1) (spelled most word limit (parts most word (read.0)))

plain_decimal : (n : ℕ) → n < 2 ^ 64 → get_or (decimal n) 0 0 ≡ 48 → length (decimal n) ≡ 1
plain_decimal zero small h = rw (decimal_digit 0 (omega arith)) refl
plain_decimal (suc n) small h = absurd (omega (arith, first_decimal (suc n) (omega arith) small, h))

-- the digits of a number
pub decimal_parts : (most n : ℕ) → IsLimit most → n < 10 ^ most → IsDigits most (decimal n)
decimal_parts most n limit h =
    let small : n < 2 ^ 64 = in_64_bits most n limit h in
    record {
      some = decimal_nonempty n small;
      short = length-decimal-le most n limit.some h small;
      digits = digits_decimal own n small;
      plain = plain_decimal n small;
    }

-- a number that is written so is read
pub number_again : (most : ℕ) (word : List ℕ) (n : ℕ) → IsLimit most → Spells most word n → numeral_of most word ≡ Some n
number_again most word n limit h =
    let test : is_numeral most (decimal n) ≡ true = joined most (decimal n) (decimal_parts most n limit (h.0)) in
    rw (h.1, test) (ap Some (digits_value-decimal own n (in_64_bits most n limit (h.0))))

-- ---- numbers of a deck

-- numbers of this many digits can be read
pub of_deck : IsLimit DECK_DIGITS
of_deck = record { some = omega arith; fits = omega arith }

-- the value of a field of digits
pub spelled_by : (field : List ℕ) → is_number field ≡ true → IsDecimal field (value_after 0 field)
spelled_by field h = spelled 13 field of_deck (parts 13 field h)

-- a number read from a field is written so
pub number_spelled : (field : List ℕ) (found : Option ℕ) → found ≡ numeral_of 13 field → IfSome found (IsDecimal field)
number_spelled field (Some n) e = number_takes 13 field n of_deck (sym e)
number_spelled field None e = tt

-- a number that is written so is read
pub number_read : (field : List ℕ) (n : ℕ) → IsDecimal field n → numeral_of 13 field ≡ Some n
number_read field n h = number_again 13 field n of_deck h
