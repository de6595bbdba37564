-- What a code is: 1 to 16 bytes, each a letter, a digit, or one of `.`, `_` and `-`.
use Rattle.std.specs.Prelude.{ℕ, Bool, ◌&&◌, ◌||◌, ◌==◌, nat_le, List, length, Option, Some, None, if◌then◌else◌}
use Rattle.std.specs.List.{list_all}
use Rattle.std.specs.Char.{is_ascii_alphanumeric}

-- a letter, a digit, or one of `.` (46), `_` (95) and `-` (45)
abbrev pub is_code_byte : ℕ → Bool
is_code_byte b = is_ascii_alphanumeric b || (b == 46 || (b == 95 || b == 45))

-- 1 to 16 bytes, each allowed in a code
abbrev pub is_code : List ℕ → Bool
is_code field = nat_le 1 (length field) && (nat_le (length field) 16 && list_all is_code_byte field)

-- the code in a field, if it has the form of a code
abbrev pub code_of : List ℕ → Option (List ℕ)
code_of field = if is_code field then Some field else None
