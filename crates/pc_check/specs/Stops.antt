-- Where the reading of a source stops.
use Rattle.std.specs.Prelude.{◌≡◌, ℕ, ◌<◌, ◌≤◌, List, ◌++◌, length, Option, None}
use Rattle.std.specs.Io.KnownBytes.{Consumes, Keeps}
use Rattle.pc_edges.specs.Faults.{Rose}
use Rattle.pc_edges.specs.Pulls.{CameIn, TakesPulls}
use Rattle.pc_cert.specs.declared.line.CertLine.{CertLine}
use Rattle.pc_cert.specs.declared.line.TheConstants.{MAX_LINE}
use Rattle.pc_cert.specs.declared.place.Place.{Place}
use Rattle.pc_text.specs.Fields.{Lacks}
use Rattle.pc_cert.specs.Text.{text_of, LeadTo}
use Rattle.pc_crash.specs.Priced.{PricedNetwork}
use Rattle.pc_check.specs.declared.checker.Verdict.{Verdict}
use Rattle.pc_check.specs.Failures.{failure_of}
use Rattle.pc_check.specs.Texts.{Finds}

-- the bytes are complete lines, in an order that is allowed, none of which fails, and the beginning of one more
pub record HasNoFailure (net : PricedNetwork) (bytes : List ℕ) : Type 0 where
  pub place : Place
  pub lines : List CertLine
  pub rest : List ℕ
  pub led : LeadTo place lines
  pub none : failure_of net lines ≡ None
  pub whole : bytes ≡ text_of lines ++ rest
  pub no_end : Lacks 10 rest
  pub short : length rest < MAX_LINE

-- The bytes that were taken have this verdict, and reading stopped where it was found. There is a state of the source in which it had
-- given bytes in which no line fails, by pulls that each gave at least one and had no fault; and from there at most one more pull, of at most
-- `room` bytes, led to the new state. So nothing is pulled after the first failing line, or after a pull that found the source at its end.
pub record IsSettled {X : Type 0} (net : PricedNetwork) (verdict : Verdict) (room : ℕ) (left : X → Option (List ℕ)) (faults : X → ℕ) (pulls : X → Option ℕ) (old new : X) : Type 0 where
  pub before : X
  pub pieces : List (List ℕ)
  pub front : List ℕ
  pub last : List ℕ
  pub came : CameIn left faults pulls pieces front old before
  pub none : HasNoFailure net front
  pub pulled : Consumes (left before) (left new) last
  pub short : length last ≤ room
  pub once : TakesPulls 1 (pulls before) (pulls new)
  pub found : Finds net (front ++ last) verdict

-- No line fails in the bytes that were taken, and reading stopped at the pull that failed: the bytes came by pulls that each gave at least
-- one and had no fault, and from there one pull, which failed and gave none, led to the new state.
pub record IsUnsettled {X : Type 0} (net : PricedNetwork) (left : X → Option (List ℕ)) (faults : X → ℕ) (pulls : X → Option ℕ) (old new : X) : Type 0 where
  pub before : X
  pub pieces : List (List ℕ)
  pub bytes : List ℕ
  pub came : CameIn left faults pulls pieces bytes old before
  pub none : HasNoFailure net bytes
  pub failed : Rose (faults before) (faults new)
  pub kept : Keeps (left before) (left new)
  pub once : TakesPulls 1 (pulls before) (pulls new)
