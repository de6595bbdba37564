-- The bit of a line of a certificate.
use Rattle.std.specs.Prelude.{ℕ, Bool, true, false, List, Option, Some, None, bytes_eq, codes, if◌then◌else◌}
use Rattle.pc_text.specs.Fields.{field_by}

-- the bit in a word: `0` or `1`
abbrev pub bit_of : List ℕ → Option Bool
bit_of word = if bytes_eq word (codes "0") then Some false else if bytes_eq word (codes "1") then Some true else None

-- a bit as its digit
abbrev pub bit_text : Bool → List ℕ
bit_text bit = if bit then codes "1" else codes "0"

-- the bit after the space at the front, and the bytes after it
unfoldable pub bit_field : List ℕ → Option (Bool × List ℕ)
bit_field bytes = field_by bit_of bytes
