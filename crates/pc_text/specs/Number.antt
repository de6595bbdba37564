-- What a number is: `0`, or digits without a leading zero. Those of a deck have at most 13 digits.
use Rattle.std.specs.Prelude.{ℕ, ◌+◌, ◌-◌, ◌*◌, Bool, not, ◌&&◌, ◌||◌, ◌==◌, nat_le, List, [], ◌∷◌, length, slice_index, Option, Some, None, if◌then◌else◌}
use Rattle.std.specs.List.{list_all}
use Rattle.std.specs.Char.{is_ascii_digit}

-- `0`, or at most `most` digits without a leading zero
abbrev pub is_numeral : ℕ → List ℕ → Bool
is_numeral most word =
    nat_le 1 (length word) && (nat_le (length word) most && (list_all is_ascii_digit word && (not (slice_index word 0 == 48) || length word == 1)))

-- the value of the digits that follow a number
abbrev pub value_after : ℕ → List ℕ → ℕ
value_after n [] = n
value_after n (digit ∷ rest) = value_after (n * 10 + (digit - 48)) rest

-- the number that a word of at most `most` digits gives in decimal form, if it does
abbrev pub numeral_of : ℕ → List ℕ → Option ℕ
numeral_of most word = if is_numeral most word then Some (value_after 0 word) else None

-- the number in a field of a deck, if it is one: it has at most 13 digits
abbrev pub number_of : List ℕ → Option ℕ
number_of field = numeral_of 13 field
