-- The first condition that fails.
use Rattle.std.specs.Prelude.{ℕ, ◌+◌, List, [], ◌∷◌, Option, Some, None, if◌then◌else◌}
use Rattle.pc_cert.specs.declared.line.CertLine.{CertLine}
use Rattle.pc_crash.specs.Priced.{PricedNetwork}
use Rattle.pc_check.specs.Draft.{Draft, empty_draft, with_line}
use Rattle.pc_check.specs.Conditions.{Condition, conditions}
use Rattle.pc_check.specs.Said.{said}
use Rattle.pc_check.specs.declared.checker.Fail.{Fail}

-- the number of the first condition that does not hold
abbrev pub first_failing : List Condition → Option ℕ
first_failing [] = None
first_failing (c ∷ cs) = if c.holds then first_failing cs else Some c.number

-- the reason for which a line fails, given the lines before it
abbrev pub reason_at : PricedNetwork → Draft → CertLine → Option ℕ
reason_at net draft line = first_failing (conditions net (said net draft) line)

-- a failure at a line for a reason, or what comes later
abbrev pub or_later : ℕ → Option ℕ → Option Fail → Option Fail
or_later line None later = later
or_later line (Some reason) later = Some (record { line = line; reason = reason })

-- the first failure of lines, the first of which has this number, given the lines before them
abbrev pub failure_after : PricedNetwork → Draft → ℕ → List CertLine → Option Fail
failure_after net draft number [] = None
failure_after net draft number (line ∷ lines) = or_later number (reason_at net draft line) (failure_after net (with_line draft line) (number + 1) lines)

-- the first failure of lines, by line and then by number; lines are counted from 1
abbrev pub failure_of : PricedNetwork → List CertLine → Option Fail
failure_of net lines = failure_after net empty_draft 1 lines
