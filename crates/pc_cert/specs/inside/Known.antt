-- A line that was read before.
use Rattle.std.specs.Prelude.{◌≡◌, ℕ, ◌+◌, ◌<◌, ◌≤◌, List, [], ◌∷◌, ◌++◌, length, take, codes, Option}
use Rattle.pc_cert.specs.declared.line.CertLine.{CertLine}
use Rattle.pc_cert.specs.declared.fast.known.LineText.{LineText}
use Rattle.pc_cert.specs.declared.event.EventFront.{EventFront}
use Rattle.pc_text.specs.Fields.{run_len, Lacks}
use Rattle.pc_cert.specs.inside.Reading.{line_of}

-- the line that was read last, if the bytes were one
pub record LastLine : Type 0 where
  pub line : Option CertLine

-- the bytes are the line and its end (10)
pub record AreLine (bytes : List ℕ) (line : Option CertLine) : Type 0 where
  pub text : List ℕ
  pub no_end : Lacks 10 text
  pub read : line_of text ≡ line
  pub whole : bytes ≡ text ++ 10 ∷ []

-- of 64 cells the first `len` are the line and its end, if these are stored
pub record AreCells (cells : List ℕ) (len : ℕ) (line : Option CertLine) : Type 0 where
  pub room : length cells ≡ 64
  pub within : len ≤ 64
  pub kept : 0 < len → AreLine (take len cells) line

-- the first line that ends in the piece is this one, and the first `used` bytes are it and its end
pub record IsAgain (line : Option CertLine) (piece : List ℕ) (used : ℕ) : Type 0 where
  pub within : used ≤ length piece
  pub ends : used ≡ run_len 10 piece + 1
  pub read : line_of (take (run_len 10 piece) piece) ≡ line

-- the bytes begin as each line of this event does: with its word, a space (32) and the code
pub record IsEventFront (code bytes : List ℕ) : Type 0 where
  pub room : 32 ≤ length bytes
  pub short : length code + 6 ≤ 32
  pub same : take (length code + 6) bytes ≡ codes "EVENT" ++ 32 ∷ code

-- the bytes of a line and its end are stored
abbrev pub HasText : LineText → Type 0
HasText text = 0 < text.len

-- the stored bytes, if there are any, are those of this line and its end
abbrev pub IsLineTextOf : Option CertLine → LineText → Type 0
IsLineTextOf line text = AreCells text.cells text.len line

-- the lines of the event with this code begin so
pub record IsFrontOf (code : List ℕ) (front : EventFront) : Type 0 where
  pub same_code : front.code ≡ code
  pub front_is : IsEventFront code front.cells
