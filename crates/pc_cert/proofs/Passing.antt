-- A line that is read without being stored.
use Rattle.std.specs.Prelude.{◌≡◌, ℕ, ◌+◌, ◌<◌, ◌≤◌, List, [], ◌∷◌, ◌++◌, length, take, Some, None}
use Rattle.pc_cert.specs.declared.line.CertLine.{CertLine}
use Rattle.pc_cert.specs.Grammar.{next}
use Rattle.pc_cert.specs.inside.Reader.{CertReading, ReadsAs}

-- a reader has moved past the line at the front of a piece, with `count` bytes used: it has one line more
pub record PassesLine (line : CertLine) (piece : List ℕ) (count : ℕ) (old new : CertReading) : Type 0 where
  pub some : 0 < count
  pub within : count ≤ length piece
  pub goes : next old.place line ≡ Some new.place
  pub going : new.malformed ≡ None
  pub nothing : new.held ≡ []
  pub counted : new.lines ≡ old.lines + 1
  pub stands : (lines : List CertLine) (text : List ℕ) → ReadsAs old lines text → ReadsAs new (lines ++ line ∷ []) (text ++ take count piece)
