-- What a talk leaves.
use Rattle.std.specs.Prelude.{◌≡◌, ℕ, ◌<◌, ◌≤◌, List, [], ◌∷◌, ◌++◌, length, map, take, Option, Result, Ok, Err}
use Rattle.std.specs.Io.KnownBytes.{Consumes, IsAtEnd}
use Rattle.pc_edges.specs.Faults.{Rose}
use Rattle.pc_edges.specs.Writes.{Wrote, Stopped}
use Rattle.pc_edges.specs.declared.lines.reader.TheConstants.{INPUT_LIMIT}
use Rattle.pc_edges.specs.lines.Lines.{whole_lines, lines_of}
use Rattle.pc_edges.specs.lines.Taken.{AreFirst, IsTakenForLast}
use Rattle.pc_edges.specs.inside.lines.Reading.{kept}
use Rattle.pc_edges.specs.declared.lines.talking.TalkError.{TalkError}
use Rattle.pc_edges.specs.declared.lines.talking.TalkError.TheVariants.{ReadFault, WriteFault, TooLong}

-- the lines are answered one after the other, each in the state after the ones before it; the text is all answers
-- together
abbrev pub Talks : {T : Type 0} → (T → List ℕ → List ℕ → T → Type 0) → T → List (List ℕ) → List ℕ → T → Type 0
Talks {T} says old [] text new = (text ≡ []) × (new ≡ old)
Talks {T} says old (line ∷ lines) text new =
    (first : List ℕ) × (rest : List ℕ) × (next : T) × (text ≡ first ++ rest) × says old line first next × Talks says next lines rest new

-- the answers to lines of a source, each cut to what the reader stores of it
abbrev pub Answered : {T : Type 0} → (T → List ℕ → List ℕ → T → Type 0) → T → List (List ℕ) → List ℕ → T → Type 0
Answered says old lines text new = Talks says old (map kept lines) text new

module _ {T C O : Type 0} (says : T → List ℕ → List ℕ → T → Type 0) (left : C → Option (List ℕ)) (source_faults : C → ℕ) (pulls : C → Option ℕ)
    (taken : O → Option (List ℕ)) (sink_faults : O → ℕ) (talker talker_after : T) (source source_after : C) (out out_after : O) where
  -- the source was read to its end without a fault, its bytes are within the limit, and all its lines were answered
  pub record IsDone : Type 0 where
    pub bytes : List ℕ
    pub text : List ℕ
    pub read : Consumes (left source) (left source_after) bytes
    pub end : IsAtEnd (left source_after)
    pub no_fault : source_faults source_after ≡ source_faults source
    pub short : length bytes ≤ INPUT_LIMIT
    pub answered : Answered says talker (lines_of bytes) text talker_after
    pub wrote : Wrote (taken out) (taken out_after) (sink_faults out) (sink_faults out_after) text

  -- a fault of the source occurred, and all complete lines before it were answered
  pub record IsUnread : Type 0 where
    pub bytes : List ℕ
    pub text : List ℕ
    pub read : Consumes (left source) (left source_after) bytes
    pub fault : Rose (source_faults source) (source_faults source_after)
    pub short : length bytes ≤ INPUT_LIMIT
    pub answered : Answered says talker (whole_lines bytes) text talker_after
    pub wrote : Wrote (taken out) (taken out_after) (sink_faults out) (sink_faults out_after) text

  -- more bytes were taken than an input may have, without a fault, and all complete lines among the first of them were
  -- answered
  pub record IsTooLong : Type 0 where
    pub bytes : List ℕ
    pub text : List ℕ
    pub read : Consumes (left source) (left source_after) bytes
    pub no_fault : source_faults source_after ≡ source_faults source
    pub long : INPUT_LIMIT < length bytes
    pub answered : Answered says talker (whole_lines (take INPUT_LIMIT bytes)) text talker_after
    pub wrote : Wrote (taken out) (taken out_after) (sink_faults out) (sink_faults out_after) text

  -- a fault of the sink occurred when it had taken a front of the answers to the first lines of the bytes that were
  -- taken, each of them complete unless the source was read to its end; and nothing was pulled after the last of them
  pub record IsCut : Type 0 where
    pub bytes : List ℕ
    pub text : List ℕ
    pub lines : List (List ℕ)
    pub others : List (List ℕ)
    pub read : Consumes (left source) (left source_after) bytes
    pub no_fault : source_faults source_after ≡ source_faults source
    pub first : lines_of (take INPUT_LIMIT bytes) ≡ lines ++ others
    pub are_first : AreFirst (left source_after) bytes lines
    pub at_once : IsTakenForLast left source_faults pulls source source_after lines
    pub answered : Answered says talker lines text talker_after
    pub stopped : Stopped (taken out) (taken out_after) (sink_faults out) (sink_faults out_after) text

  -- how a talk ends
  abbrev pub Ends : Result (Unit {0}) TalkError → Type 0
  Ends (Ok done) = IsDone
  Ends (Err ReadFault) = IsUnread
  Ends (Err WriteFault) = IsCut
  Ends (Err TooLong) = IsTooLong
