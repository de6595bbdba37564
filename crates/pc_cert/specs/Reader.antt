-- The state of a reader of a certificate.
use Rattle.std.specs.Prelude.{◌≡◌, ◌≢◌, ℕ, ◌+◌, ◌<◌, List, [], ◌∷◌, ◌++◌, length, Some, ◌⊎◌}
use Rattle.pc_cert.specs.declared.line.CertLine.{CertLine}
use Rattle.pc_cert.specs.declared.line.TheConstants.{MAX_LINE}
use Rattle.pc_cert.specs.declared.place.Place.{Place}
use Rattle.pc_cert.specs.declared.place.Place.TheVariants.{Ended}
use Rattle.pc_text.specs.Fields.{Lacks}
use Rattle.pc_cert.specs.Lines.{spelling, IsWritable}
use Rattle.pc_cert.specs.Grammar.{next}
use Rattle.pc_cert.specs.Text.{text_of, LeadTo}
use Rattle.pc_cert.specs.declared.reader.Malformed.{Malformed}

-- the text is these lines, which may come in this order, and then the beginning of a line, which is not yet as long as a line that
-- is too long
pub record IsGoing (place : Place) (number : ℕ) (held : List ℕ) (lines : List CertLine) (text : List ℕ) : Type 0 where
  pub led : LeadTo place lines
  pub count : number ≡ length lines
  pub whole : text ≡ text_of lines ++ held
  pub no_end : Lacks 10 held
  pub short : length held < MAX_LINE

-- no line that is allowed in this place has this text
abbrev pub IsNotAllowed : Place → List ℕ → Type 0
IsNotAllowed place bytes = (line : CertLine) (behind : Place) → IsWritable line → bytes ≡ spelling line → next place line ≡ Some behind → ⊥

-- a complete line that is not allowed in this place
abbrev pub IsBadLine : Place → List ℕ → Type 0
IsBadLine place bad = (line : List ℕ) × Lacks 10 line × (bad ≡ line ++ 10 ∷ []) × IsNotAllowed place line

-- as many bytes of a line without its end as make it too long
abbrev pub IsTooLong : List ℕ → Type 0
IsTooLong bad = (length bad ≡ MAX_LINE) × Lacks 10 bad

-- the text is these lines, which may come in this order, then a line that is not allowed there or too long, and then
-- anything
pub record IsStopped (malformed : Malformed) (lines : List CertLine) (text : List ℕ) : Type 0 where
  pub place : Place
  pub led : LeadTo place lines
  pub number : malformed.line ≡ length lines + 1
  pub bad : List ℕ
  pub more : List ℕ
  pub whole : text ≡ text_of lines ++ (bad ++ more)
  pub why : IsBadLine place bad ⊎ IsTooLong bad

-- the text is these lines, which are those of a complete certificate
pub record IsWhole (lines : List CertLine) (text : List ℕ) : Type 0 where
  pub led : LeadTo Ended lines
  pub whole : text ≡ text_of lines

-- the text ends after these lines with a line missing: the last one is not the last of a certificate, or bytes follow
-- it
pub record IsMissing (malformed : Malformed) (lines : List CertLine) (text : List ℕ) : Type 0 where
  pub place : Place
  pub held : List ℕ
  pub going : IsGoing place (length lines) held lines text
  pub number : malformed.line ≡ length lines + 1
  pub why : (place ≢ Ended) ⊎ (held ≢ [])
