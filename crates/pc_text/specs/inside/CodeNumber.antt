-- A code as one number.
use Rattle.std.specs.Prelude.{ℕ, zero, suc, ◌+◌, ◌*◌, ◌/◌, ◌%◌, List, [], ◌∷◌}
use Rattle.std.specs.List.{take_while}
use Rattle.pc_text.specs.Code.{is_code_byte}
use Rattle.pc_text.specs.inside.Words.{padded}

-- the number with these bytes, the lowest first
abbrev pub value_of_bytes : List ℕ → ℕ
value_of_bytes [] = 0
value_of_bytes (b ∷ bs) = b + 256 * value_of_bytes bs

-- this many bytes of a number, the lowest first
abbrev pub bytes_of : ℕ → ℕ → List ℕ
bytes_of zero number = []
bytes_of (suc k) number = number % 256 ∷ bytes_of k (number / 256)

-- the number whose bytes are the cells of a code
unfoldable pub number_of_code : List ℕ → ℕ
number_of_code code = value_of_bytes (padded 16 code)

-- the code with which the 16 bytes of a number begin
unfoldable pub code_in : ℕ → List ℕ
code_in number = take_while is_code_byte (bytes_of 16 number)
