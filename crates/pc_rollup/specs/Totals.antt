-- The amounts of the items of a work breakdown structure.
use Rattle.std.specs.Prelude.{ℕ, ℤ, pos, List, slice_index_or}

-- the amount of an item; past the end of the list none
abbrev pub amount_at : List ℤ → ℕ → ℤ
amount_at amounts x = slice_index_or amounts x (pos 0)
