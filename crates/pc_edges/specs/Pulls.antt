-- How often a source is pulled from, and where the reading of a source stops.
use Rattle.std.specs.Prelude.{◌≡◌, ℕ, ◌+◌, ◌<◌, ◌≤◌, List, [], ◌∷◌, ◌++◌, length, Option, Some, None, ⊤}
use Rattle.std.specs.Io.KnownBytes.{Consumes}

-- there were at most `most` pulls between the two counts, if the source counts its pulls
abbrev pub TakesPulls : ℕ → Option ℕ → Option ℕ → Type 0
TakesPulls most (Some before) (Some after) = after ≤ before + most
TakesPulls most (Some before) None = ⊥
TakesPulls most None after = ⊤

-- The bytes came in these pieces, one after the other: for each there was at most one pull, it had no fault, and it gave at least one byte,
-- so that the source was not at its end before it.
abbrev pub CameIn : {X : Type 0} → (X → Option (List ℕ)) → (X → ℕ) → (X → Option ℕ) → List (List ℕ) → List ℕ → X → X → Type 0
CameIn {X} left faults pulls [] bytes old new = (bytes ≡ []) × (new ≡ old)
CameIn {X} left faults pulls (piece ∷ pieces) bytes old new =
    (rest : List ℕ) × (next : X) × (bytes ≡ piece ++ rest) × (0 < length piece) × Consumes (left old) (left next) piece
    × (faults next ≡ faults old) × TakesPulls 1 (pulls old) (pulls next) × CameIn left faults pulls pieces rest next new

-- Reading stops at the pull that passes the limit, ends the input or fails. There is a state of the source in which it had given at most
-- `limit` bytes, by pulls that each gave at least one and had no fault; and from there at most one more pull, of at most `room` bytes, led to
-- the new state. So nothing is pulled after a pull that failed or found the source at its end.
pub record IsReadWithin {X : Type 0} (limit room : ℕ) (left : X → Option (List ℕ)) (faults : X → ℕ) (pulls : X → Option ℕ) (old new : X) : Type 0 where
  pub before : X
  pub pieces : List (List ℕ)
  pub front : List ℕ
  pub last : List ℕ
  pub came : CameIn left faults pulls pieces front old before
  pub within : length front ≤ limit
  pub pulled : Consumes (left before) (left new) last
  pub short : length last ≤ room
  pub once : TakesPulls 1 (pulls before) (pulls new)
