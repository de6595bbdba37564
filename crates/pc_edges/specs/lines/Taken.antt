-- How much is taken of a source of lines, and that its lines are given as soon as they are there.
use Rattle.std.specs.Prelude.{◌≡◌, ℕ, ◌≤◌, List, [], ◌∷◌, ◌++◌, length, take, Option}
use Rattle.std.specs.Io.KnownBytes.{Consumes, IsAtEnd}
use Rattle.pc_edges.specs.Pulls.{CameIn, TakesPulls}
use Rattle.pc_edges.specs.declared.loading.TheConstants.{STREAM_ROOM}
use Rattle.pc_edges.specs.declared.lines.reader.TheConstants.{INPUT_LIMIT}
use Rattle.pc_edges.specs.lines.Lines.{whole_lines, lines_of}

-- reading stops at the pull that passes the limit, ends the input or fails: there is a state of the source in which it had given at most as
-- many bytes as an input may have, by pulls that each gave at least one and had no fault; and from there at most one more pull, of at most
-- one buffer, led to the new state; so nothing is pulled after a pull that failed or found the source at its end
pub record IsTakenWithin {X : Type 0} (left : X → Option (List ℕ)) (faults : X → ℕ) (pulls : X → Option ℕ) (old new : X) : Type 0 where
  pub before : X
  pub pieces : List (List ℕ)
  pub front : List ℕ
  pub last : List ℕ
  pub came : CameIn left faults pulls pieces front old before
  pub within : length front ≤ INPUT_LIMIT
  pub pulled : Consumes (left before) (left new) last
  pub short : length last ≤ STREAM_ROOM
  pub once : TakesPulls 1 (pulls before) (pulls new)

-- the same, and no lines other than these were complete before the last pull
pub record IsTakenFor {X : Type 0} (left : X → Option (List ℕ)) (faults : X → ℕ) (pulls : X → Option ℕ) (old new : X) (lines : List (List ℕ)) : Type 0 where
  pub taken : IsTakenWithin left faults pulls old new
  pub others : List (List ℕ)
  pub whole : lines ≡ whole_lines taken.front ++ others

-- nothing is pulled while there is a complete line: the last of the lines was not complete before the last pull
pub record IsTakenForLast {X : Type 0} (left : X → Option (List ℕ)) (faults : X → ℕ) (pulls : X → Option ℕ) (old new : X) (lines : List (List ℕ)) : Type 0 where
  pub earlier : List (List ℕ)
  pub line : List ℕ
  pub are : lines ≡ earlier ++ line ∷ []
  pub taken : IsTakenFor left faults pulls old new earlier

-- the lines are the first of the complete ones within the limit; or of all lines, if the input was read to its end
pub data AreFirst (left_after : Option (List ℕ)) (bytes : List ℕ) (lines : List (List ℕ)) : Type 0 where
  of_whole : (others : List (List ℕ)) → whole_lines (take INPUT_LIMIT bytes) ≡ lines ++ others → AreFirst left_after bytes lines
  of_all : IsAtEnd left_after → length bytes ≤ INPUT_LIMIT → (others : List (List ℕ)) → lines_of bytes ≡ lines ++ others → AreFirst left_after bytes lines
