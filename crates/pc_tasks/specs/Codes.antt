-- The codes of the events and links that are generated from tasks and that no card names: `_`, a letter, and a number counted from 1.
-- No card of a deck of tasks defines such a code.
use Rattle.std.specs.Prelude.{ℕ, ◌+◌, List, ◌∷◌, codes, decimal}

-- `_` (95), a letter and the number of the i-th from 0
abbrev pub drawn_code : ℕ → ℕ → List ℕ
drawn_code letter i = 95 ∷ letter ∷ decimal (i + 1)

-- `_b1`: the event at which the first task begins
abbrev pub begin_code : ℕ → List ℕ
begin_code i = drawn_code 98 i

-- `_e1`: the event at which it ends
abbrev pub end_code : ℕ → List ℕ
end_code i = drawn_code 101 i

-- `_a1`: the link of the first AFTER card
abbrev pub after_code : ℕ → List ℕ
after_code j = drawn_code 97 j

-- `_s1`: the link from the start to the event at which the first task begins
abbrev pub first_code : ℕ → List ℕ
first_code i = drawn_code 115 i

-- `_t1`: the link from the event at which it ends to the end
abbrev pub last_code : ℕ → List ℕ
last_code i = drawn_code 116 i

-- the item of the links
abbrev pub links_code : List ℕ
links_code = codes "_links"
