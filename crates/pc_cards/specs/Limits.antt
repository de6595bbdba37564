-- How large a deck may be.
use Rattle.std.specs.Prelude.{ℕ}

-- how many bytes a deck may have, of either version
abbrev pub longest_deck : ℕ
longest_deck = 67108864
