-- The text of a certified certificate, and the first failing point of every other text.
use Rattle.std.specs.Prelude.{◌≡◌, ℕ, List, ◌++◌, length, Some, None}
use Rattle.pc_cert.specs.declared.line.CertLine.{CertLine}
use Rattle.pc_cert.specs.declared.place.Place.{Place}
use Rattle.pc_cert.specs.Text.{text_of, LeadTo}
use Rattle.pc_cert.specs.Reader.{IsStopped, IsMissing, IsWhole}
use Rattle.pc_crash.specs.Priced.{PricedNetwork}
use Rattle.pc_check.specs.declared.checker.Fail.{Fail}
use Rattle.pc_check.specs.declared.checker.Verdict.{Verdict}
use Rattle.pc_check.specs.declared.checker.Verdict.TheVariants.{Yes, No}
use Rattle.pc_check.specs.Failures.{failure_of}
use Rattle.pc_check.specs.Certified.{segments_of}

-- the text is that of a complete certificate, no line of it fails, and it has this many segments. That these are the
-- complete curve of the network follows (`certificates_print_the_curve`)
pub record IsCertified (net : PricedNetwork) (text : List ℕ) (segments : ℕ) : Type 0 where
  pub lines : List CertLine
  pub whole : IsWhole lines text
  pub none : failure_of net lines ≡ None
  pub count : segments ≡ length (segments_of net lines)

-- the first failing point of a text: complete lines, in an order that is allowed, have their first failure there; or
-- the lines before it have none, and the line is malformed or missing, which is reason 0
pub data IsFailing (net : PricedNetwork) (text : List ℕ) (fail : Fail) : Type 0 where
  fails : (place : Place) (lines : List CertLine) (rest : List ℕ) → LeadTo place lines → text ≡ text_of lines ++ rest → failure_of net lines ≡ Some fail → IsFailing net text fail
  malformed : (lines : List CertLine) → failure_of net lines ≡ None → IsStopped (record { line = fail.line }) lines text → fail.reason ≡ 0 → IsFailing net text fail
  missing : (lines : List CertLine) → failure_of net lines ≡ None → IsMissing (record { line = fail.line }) lines text → fail.reason ≡ 0 → IsFailing net text fail

-- what a text is found to be
abbrev pub Finds : PricedNetwork → List ℕ → Verdict → Type 0
Finds net text (Yes segments) = IsCertified net text segments
Finds net text (No line reason) = IsFailing net text (record { line = line; reason = reason })
