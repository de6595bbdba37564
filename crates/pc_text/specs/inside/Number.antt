-- What a number is: `0`, or digits without a leading zero. Those of a deck have at most 13 digits.
-- Here is what no clause of a top call and no law reaches.
use Rattle.std.specs.Prelude.{◌≡◌, ℕ, ◌^◌, ◌<◌, Bool, not, ◌&&◌, ◌||◌, ◌==◌, nat_le, List, length, slice_index, Option, Some, None, if◌then◌else◌}
use Rattle.std.specs.List.{list_all}
use Rattle.std.specs.Char.{is_ascii_digit}
use Rattle.std.specs.Fmt.{decimal}
use Rattle.pc_text.specs.Number.{is_numeral, value_after}

-- a number of a deck: `0`, or digits without a leading zero, at most 13 digits
abbrev pub is_number : List ℕ → Bool
is_number field = is_numeral 13 field

-- 1 to `most` bytes, and no zero before others
abbrev pub is_unpadded : ℕ → List ℕ → Bool
is_unpadded most word = nat_le 1 (length word) && (nat_le (length word) most && (not (slice_index word 0 == 48) || length word == 1))

-- the value of a word, where each byte is a digit
abbrev pub value_of_digits : List ℕ → Option ℕ
value_of_digits word = if list_all is_ascii_digit word then Some (value_after 0 word) else None

-- the word is the decimal form of n, which is below 10 to the power of `most`
abbrev pub Spells : ℕ → List ℕ → ℕ → Type 0
Spells most word n = (n < 10 ^ most) × (word ≡ decimal n)

-- the field is the decimal form of n, and has at most 13 digits
abbrev pub IsDecimal : List ℕ → ℕ → Type 0
IsDecimal field n = Spells 13 field n
