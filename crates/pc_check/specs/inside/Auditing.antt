-- The state of an audit.
-- Here is what no clause of a top call and no law reaches.
use Rattle.std.specs.Prelude.{◌≡◌, ℕ, ◌+◌, ◌-◌, ◌*◌, ◌^◌, ◌<◌, ◌≤◌, List, ◌++◌, length, take, None, Result, IfOk, IfErr, OnOk}
use Rattle.pc_cert.specs.declared.line.CertLine.{CertLine}
use Rattle.pc_cert.specs.declared.line.TheConstants.{MAX_LINE}
use Rattle.pc_cert.specs.inside.Reader.{CertReading, ReadsAs}
use Rattle.pc_check.specs.Texts.{IsFailing}
use Rattle.pc_check.specs.declared.checker.Fail.{Fail}
use Rattle.pc_check.specs.inside.Bounds.{lines_left}
use Rattle.pc_check.specs.inside.Checking.{Checking, ChecksAs}

-- a reader and a checker
pub record Auditing : Type 0 where
  pub reader : CertReading
  pub checker : Checking

-- the text was read, and its complete lines were checked
pub record HasRead (text : List ℕ) (audit : Auditing) : Type 0 where
  pub lines : List CertLine
  pub read : ReadsAs audit.reader lines text
  pub checked : ChecksAs audit.checker lines

-- nothing is malformed and nothing has failed
pub record IsOngoingAudit (audit : Auditing) : Type 0 where
  pub well_formed : audit.reader.malformed ≡ None
  pub no_fail : audit.checker.fail ≡ None
  pub few : audit.checker.kept.lines < 2 ^ 63
  pub short : length audit.reader.held < MAX_LINE

-- the most bytes that may still come before something is malformed or fails
abbrev pub audit_bytes_left : Auditing → ℕ
audit_bytes_left audit = lines_left audit.checker.net audit.checker.kept * MAX_LINE + (MAX_LINE - length audit.reader.held)

-- an audit can use a piece: it has read a text and nothing of it has failed, and the piece has a byte
pub record MayUse (piece : List ℕ) (audit : Auditing) : Type 0 where
  pub read : (text : List ℕ) × HasRead text audit
  pub going : IsOngoingAudit audit
  pub some : 0 < length piece

-- a step uses some bytes at the beginning of the piece, and fewer bytes may come after it; or every text that continues with the
-- piece fails as it says
pub record HasUsed (piece : List ℕ) (old new : Auditing) (result : Result ℕ Fail) : Type 0 where
  pub within : IfOk result (λ used. used ≤ length piece)
  pub some : IfOk result (λ used. 0 < used)
  pub goes_on : IfOk result (λ used. (text : List ℕ) → HasRead text old → HasRead (text ++ take used piece) new)
  pub going : OnOk result (IsOngoingAudit new)
  pub fails : IfErr result (λ fail. (text more : List ℕ) → HasRead text old → IsFailing old.checker.net (text ++ (piece ++ more)) fail)
  pub net : new.checker.net ≡ old.checker.net
  pub left : OnOk result (audit_bytes_left new < audit_bytes_left old)
