-- The state of a reader of a certificate.
-- Here is what no clause of a top call and no law reaches.
use Rattle.std.specs.Prelude.{◌≡◌, ℕ, ◌+◌, ◌^◌, ◌<◌, ◌≤◌, List, [], length, Option, Some, None, Result, Ok, Err, ◌⊎◌}
use Rattle.pc_cert.specs.declared.line.CertLine.{CertLine}
use Rattle.pc_cert.specs.declared.line.TheConstants.{MAX_LINE}
use Rattle.pc_cert.specs.declared.place.Place.{Place}
use Rattle.pc_text.specs.Fields.{◌>>=◌}
use Rattle.pc_cert.specs.Grammar.{next}
use Rattle.pc_cert.specs.declared.reader.Malformed.{Malformed}
use Rattle.pc_cert.specs.Reader.{IsGoing, IsStopped, IsWhole, IsMissing}

-- the state of a reader: its place in the order of lines, how many complete lines there were, the bytes of the line
-- that has not ended, and the first line that is malformed
pub record CertReading : Type 0 where
  pub place : Place
  pub lines : ℕ
  pub held : List ℕ
  pub malformed : Option Malformed

-- the bytes of a line that has not ended have room, and one more than the complete lines can be counted
pub record KeepsRoom (cells : List ℕ) (held count : ℕ) : Type 0 where
  pub short : held < MAX_LINE
  pub room : length cells ≡ MAX_LINE
  pub few : count ≤ 2 ^ 63

abbrev pub IsGoingOrStopped : Option Malformed → Place → ℕ → List ℕ → List CertLine → List ℕ → Type 0
IsGoingOrStopped None place count held lines text = IsGoing place count held lines text
IsGoingOrStopped (Some malformed) place count held lines text = IsStopped malformed lines text

-- the reader is in the state after a text with these complete lines: one without a malformed line, or any with its
-- first one
abbrev pub ReadsAs : CertReading → List CertLine → List ℕ → Type 0
ReadsAs reading lines text = IsGoingOrStopped reading.malformed reading.place reading.lines reading.held lines text

-- how a text ends: complete, or with a line that is malformed or missing
abbrev pub EndsAs : {A : Type 0} → Result A Malformed → List CertLine → List ℕ → Type 0
EndsAs (Ok done) lines text = IsWhole lines text
EndsAs (Err malformed) lines text = IsStopped malformed lines text ⊎ IsMissing malformed lines text

-- the place after a line, if there is one and it is allowed in this place
abbrev pub place_behind : Place → Option CertLine → Option Place
place_behind place line = line >>= next place

-- a reader has moved past a line that is allowed in its place
pub record GoesBehind (line : Option CertLine) (used count : ℕ) (old new : CertReading) : Type 0 where
  pub used_is : count ≡ used
  pub taken : CertLine
  pub there : line ≡ Some taken
  pub goes : next old.place taken ≡ Some new.place
  pub moved : new ≡ record old { place = new.place; lines = old.lines + 1; held = [] }

-- a reader has stopped at a line that is not allowed in its place, or at bytes that are no line
pub record StopsAtLine (line : Option CertLine) (malformed : Malformed) (old new : CertReading) : Type 0 where
  pub number : malformed.line ≡ old.lines + 1
  pub kept : new ≡ record old { malformed = Some malformed }
  pub none : place_behind old.place line ≡ None

-- the result of the line that ends in a piece, with `used` bytes used
abbrev pub HasReadLine : Option CertLine → ℕ → CertReading → CertReading → Result ℕ Malformed → Type 0
HasReadLine line used old new (Ok count) = GoesBehind line used count old new
HasReadLine line used old new (Err malformed) = StopsAtLine line malformed old new
