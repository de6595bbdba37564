-- What a checker found of lines.
-- Here is what no clause of a top call and no law reaches.
use Rattle.std.specs.Prelude.{◌≡◌, List, length, Some}
use Rattle.pc_cert.specs.declared.line.CertLine.{CertLine}
use Rattle.pc_crash.specs.Priced.{PricedNetwork}
use Rattle.pc_check.specs.declared.checker.Verdict.{Verdict}
use Rattle.pc_check.specs.declared.checker.Verdict.TheVariants.{Yes, No}
use Rattle.pc_check.specs.Failures.{failure_of}
use Rattle.pc_check.specs.Certified.{AreCertified, segments_of}

-- what a checker found: that the lines are certified, and how many segments they have, or their first failure
abbrev pub FindsInLines : PricedNetwork → List CertLine → Verdict → Type 0
FindsInLines net lines (Yes segments) = AreCertified net lines × (segments ≡ length (segments_of net lines))
FindsInLines net lines (No line reason) = failure_of net lines ≡ Some (record { line = line; reason = reason })

-- a fact at a yes
abbrev pub OnYes : Verdict → Type 0 → Type 0
OnYes (Yes segments) P = P
OnYes (No line reason) P = Unit {0}
