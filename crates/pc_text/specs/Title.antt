-- What a title is: at most 80 bytes, none below 0x20 and none 0x7F.
use Rattle.std.specs.Prelude.{ℕ, Bool, not, List}
use Rattle.std.specs.List.{list_all}
use Rattle.std.specs.Char.{is_ascii_control}

-- no byte is below 0x20, and none is 0x7F
abbrev pub is_title_shape : List ℕ → Bool
is_title_shape field = list_all (λ b. not (is_ascii_control b)) field
