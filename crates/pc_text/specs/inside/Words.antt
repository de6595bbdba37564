-- A text that is stored in a value itself: its bytes, and zeros after them up to the value's capacity.
use Rattle.std.specs.Prelude.{◌≡◌, ℕ, ◌-◌, ◌≤◌, List, ◌++◌, length, take, replicate}
use Rattle.std.proofs.Common.{arith, length-take-le}

-- the bytes, and zeros after them up to `room` bytes
abbrev pub padded : ℕ → List ℕ → List ℕ
padded room bytes = bytes ++ replicate (room - length bytes) 0

-- the first `len` of `room` cells are the text, and zeros follow them
pub record IsPadded (room len : ℕ) (cells : List ℕ) : Type 0 where
  pub fits : len ≤ room
  pub full : length cells ≡ room
  pub zeros : cells ≡ padded room (take len cells)

-- the text of padded cells is as long as they say
pub length-IsPadded : {room len : ℕ} {cells : List ℕ} → IsPadded room len cells → length (take len cells) ≡ len
length-IsPadded h = length-take-le _ _ (omega (arith, h.fits, h.full))
