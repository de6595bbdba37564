-- How many fields a card should have.
use Rattle.std.specs.Prelude.{ℕ, nat_lt, List, length, if◌then◌else◌}

-- how many fields there should be, if there are too few or too many
abbrev pub width_wanted : ℕ → ℕ → List (List ℕ) → ℕ
width_wanted least most fields = if nat_lt (length fields) least then least else most
