-- What a reader of lines represents, and what a step of it does.
use Rattle.std.specs.Prelude.{◌≡◌, ℕ, ◌+◌, ◌-◌, ◌<◌, ◌≤◌, List, [], ◌∷◌, ◌++◌, length, take, Bool, true, false, Option, Result, Ok, Err}
use Rattle.std.specs.Io.KnownBytes.{Consumes, IsAtEnd, Keeps}
use Rattle.pc_edges.specs.Pulls.{CameIn, TakesPulls}
use Rattle.pc_edges.specs.declared.loading.TheConstants.{STREAM_ROOM}
use Rattle.pc_edges.specs.declared.source.Failed.{Failed}
use Rattle.pc_edges.specs.declared.lines.reader.Next.{Next}
use Rattle.pc_edges.specs.declared.lines.reader.Next.TheVariants.{Line, Last, End}
use Rattle.pc_edges.specs.declared.lines.reader.LineError.{LineError}
use Rattle.pc_edges.specs.declared.lines.reader.LineError.TheVariants.{ReadFault, TooLong}
use Rattle.pc_edges.specs.declared.lines.reader.TheConstants.{INPUT_LIMIT, LINE_ROOM}
use Rattle.pc_edges.specs.lines.Lines.{whole_lines, lines_of}
use Rattle.pc_edges.specs.inside.lines.Lines.{text_of_lines, IsOpen, AreOpen}

-- what contracts see of a reader: the line that it gave last, as far as it stores it; the bytes that were pulled, are
-- within the limit and were not given yet; and how many bytes were pulled
pub record Reading : Type 0 where
  pub line : List ℕ
  pub ahead : List ℕ
  pub taken : ℕ

-- the part of a line that the reader stores
abbrev pub kept : List ℕ → List ℕ
kept line = take LINE_ROOM line

-- the bytes were pulled, and those of them within the limit are the lines that were given and the bytes ahead
pub record StandsFor (reading : Reading) (lines : List (List ℕ)) (bytes : List ℕ) : Type 0 where
  pub whole : take INPUT_LIMIT bytes ≡ text_of_lines lines ++ reading.ahead
  pub ends : AreOpen lines
  pub count : reading.taken ≡ length bytes

-- the most bytes that may still be given
abbrev pub bytes_left : Reading → ℕ
bytes_left reading = (INPUT_LIMIT - reading.taken) + length reading.ahead

-- ---- what a step leaves

-- what a step of a reader that gave these lines of these bytes pulls: nothing; or some bytes, up to the last pull by
-- pulls that each gave at least one and had no fault, and before the last pull no other line was complete
pub data HasPulled {X : Type 0} (left : X → Option (List ℕ)) (faults : X → ℕ) (pulls : X → Option ℕ) (source source_after : X) (lines : List (List ℕ)) (bytes : List ℕ) : Type 0 where
  no_pull : source_after ≡ source → HasPulled left faults pulls source source_after lines bytes
  some_pulls : (before : X) (pieces : List (List ℕ)) (more last : List ℕ) → CameIn left faults pulls pieces more source before → length (bytes ++ more) ≤ INPUT_LIMIT
      → Consumes (left before) (left source_after) last → length last ≤ STREAM_ROOM → TakesPulls 1 (pulls before) (pulls source_after)
      → whole_lines (bytes ++ more) ≡ lines → HasPulled left faults pulls source source_after lines bytes

module _ {X : Type 0} (left : X → Option (List ℕ)) (faults : X → ℕ) (pulls : X → Option ℕ) (source source_after : X) (lines : List (List ℕ)) (bytes : List ℕ) where
  -- one more line is given, and each pull gave a byte at least and had no fault
  pub record Gave (reading : Reading) : Type 0 where
    pub line : List ℕ
    pub pieces : List (List ℕ)
    pub more : List ℕ
    pub taken : CameIn left faults pulls pieces more source source_after
    pub pulled : HasPulled left faults pulls source source_after lines bytes
    pub is : reading.line ≡ kept line
    pub stands : StandsFor reading (lines ++ line ∷ []) (bytes ++ more)

  -- the input ended, and the one line that was not given yet has no end
  pub record GaveLast (reading : Reading) : Type 0 where
    pub line : List ℕ
    pub more : List ℕ
    pub taken : Consumes (left source) (left source_after) more
    pub pulled : HasPulled left faults pulls source source_after lines bytes
    pub end : IsAtEnd (left source_after)
    pub short : length (bytes ++ more) ≤ INPUT_LIMIT
    pub is : reading.line ≡ kept line
    pub all : lines_of (bytes ++ more) ≡ lines ++ line ∷ []

  -- the input ended, and all its lines were given
  pub record GaveAll : Type 0 where
    pub more : List ℕ
    pub taken : Consumes (left source) (left source_after) more
    pub pulled : HasPulled left faults pulls source source_after lines bytes
    pub end : IsAtEnd (left source_after)
    pub short : length (bytes ++ more) ≤ INPUT_LIMIT
    pub all : lines_of (bytes ++ more) ≡ lines

  -- a pull failed, and all complete lines were given
  pub record FailedBehind : Type 0 where
    pub more : List ℕ
    pub taken : Consumes (left source) (left source_after) more
    pub pulled : HasPulled left faults pulls source source_after lines bytes
    pub short : length (bytes ++ more) ≤ INPUT_LIMIT
    pub all : whole_lines (bytes ++ more) ≡ lines

  -- more bytes were pulled than an input may have, and all complete lines among the first of them were given
  pub record PassedLimit : Type 0 where
    pub more : List ℕ
    pub taken : Consumes (left source) (left source_after) more
    pub pulled : HasPulled left faults pulls source source_after lines bytes
    pub long : INPUT_LIMIT < length (bytes ++ more)
    pub all : whole_lines (take INPUT_LIMIT (bytes ++ more)) ≡ lines

  -- what a step leaves of a reader that gave these lines of these bytes
  abbrev pub Stepped : Reading → Result Next LineError → Type 0
  Stepped reading (Ok Line) = Gave reading
  Stepped reading (Ok Last) = GaveLast reading
  Stepped reading (Ok End) = GaveAll
  Stepped reading (Err ReadFault) = FailedBehind
  Stepped reading (Err TooLong) = PassedLimit

-- ---- within a step

-- the bytes ahead were taken up to the end of a line, or all of them if no line ends in them
pub record TookLine (old new : Reading) (front : List ℕ) : Type 0 where
  pub split : old.ahead ≡ front ++ 10 ∷ new.ahead
  pub no_end : IsOpen front
  pub kept_is : new.line ≡ kept (old.line ++ front)
  pub same : new.taken ≡ old.taken

pub record TookAll (old new : Reading) : Type 0 where
  pub nothing : new.ahead ≡ []
  pub no_end : IsOpen old.ahead
  pub kept_is : new.line ≡ kept (old.line ++ old.ahead)
  pub same : new.taken ≡ old.taken

abbrev pub TakesLine : Reading → Reading → Bool → Type 0
TakesLine old new true = (front : List ℕ) × TookLine old new front
TakesLine old new false = TookAll old new

-- the next bytes were pulled, and those within the limit are ahead
pub record IsFilled (old new : Reading) (left left_after : Option (List ℕ)) (count : ℕ) : Type 0 where
  pub more : List ℕ
  pub taken : Consumes left left_after more
  pub length_is : length more ≡ count
  pub room : length more ≤ STREAM_ROOM
  pub ahead : new.ahead ≡ take (INPUT_LIMIT - old.taken) more
  pub same : new.line ≡ old.line
  pub counted : new.taken ≡ old.taken + count
  pub end : count ≡ 0 → IsAtEnd left_after

abbrev pub Filled : Reading → Reading → Option (List ℕ) → Option (List ℕ) → Result ℕ Failed → Type 0
Filled old new left left_after (Ok count) = IsFilled old new left left_after count
Filled old new left left_after (Err failed) = Keeps left left_after
