-- What a code is: 1 to 16 bytes, each a letter, a digit, or one of `.`, `_` and `-`.
-- Here is what no clause of a top call and no law reaches.
use Rattle.std.specs.Prelude.{ℕ, Bool, ◌&&◌, nat_le, List, length}

-- 1 to 16 bytes
abbrev pub has_code_length : List ℕ → Bool
has_code_length field = nat_le 1 (length field) && nat_le (length field) 16
