-- A checker that takes lines as a reader reads them.
use Rattle.std.specs.Prelude.{◌≡◌, ℕ, ◌^◌, ◌<◌, ◌≤◌, List, [], ◌++◌, length, take, None}
use Rattle.pc_cert.specs.declared.line.CertLine.{CertLine}
use Rattle.pc_cert.specs.declared.event.EventFront.{EventFront}
use Rattle.pc_cert.specs.inside.Reader.{CertReading, ReadsAs}
use Rattle.pc_crash.specs.Priced.{PricedNetwork}
use Rattle.pc_check.specs.declared.kept.Kept.{Kept}
use Rattle.pc_check.specs.inside.Bounds.{IsBounded, lines_left}
use Rattle.pc_check.specs.inside.Checking.{Checking, ChecksAs}
use Rattle.pc_check.specs.inside.fast.Fronts.{AreFronts}
use Rattle.pc_check.specs.inside.fast.Rows.{going}
use Rattle.pc_check.specs.inside.Safe.{IsSafe}

-- lines at the front of the piece, with their ends `count` bytes, were read and taken, and none has failed
pub record TakesAlong (piece : List ℕ) (count : ℕ) (before after : CertReading) (old new : Checking) : Type 0 where
  pub taken : List CertLine
  pub within : count ≤ length piece
  pub going : after.malformed ≡ None
  pub nothing : after.held ≡ []
  pub reads : (lines : List CertLine) (text : List ℕ) → ReadsAs before lines text → ReadsAs after (lines ++ taken) (text ++ take count piece)
  pub stands : (lines : List CertLine) → ChecksAs old lines → ChecksAs new (lines ++ taken)
  pub none : new.fail ≡ None
  pub net : new.net ≡ old.net
  pub place : after.place ≡ new.kept.place
  pub alike : after.lines ≡ new.kept.lines
  pub few : new.kept.lines < 2 ^ 63
  pub left : lines_left new.net new.kept < lines_left old.net old.kept

-- rows may be taken: the reader is at the place and the line of the state, and has found no malformed line
pub record MayAdvance (net : PricedNetwork) (list : List EventFront) (reader : CertReading) (kept : Kept) : Type 0 where
  pub safe : IsSafe net kept.tally
  pub fronts : AreFronts net list
  pub bounded : IsBounded net kept
  pub place : reader.place ≡ kept.place
  pub going : reader.malformed ≡ None
  pub alike : reader.lines ≡ kept.lines
  pub few : kept.lines < 2 ^ 63

-- the rows in the first `used` bytes of the piece were taken; nothing has changed if there are none
pub record HasAdvanced (net : PricedNetwork) (piece : List ℕ) (used : ℕ) (before after : CertReading) (old new : Kept) : Type 0 where
  pub same_kept : used ≡ 0 → new ≡ old
  pub same_reader : used ≡ 0 → after ≡ before
  pub takes : 0 < used → TakesAlong piece used before after (going net old) (going net new)
  pub bounded : IsBounded net new
  pub safe : IsSafe net new.tally
