-- How often a source is pulled, by the first upper end of its own text.
use Rattle.std.proofs.Common.{ℕ, ◌+◌, ◌*◌, ◌≤◌, List, [], ◌∷◌, ◌++◌, length, Option, Some, None, Result, Ok, Err, refl, ap, ◌∙◌, arith, append_assoc, length-append}
use Rattle.std.specs.Prelude.{IfSome, IfOk, OnErr}
use Rattle.std.specs.Io.KnownBytes.{Consumes}
use Rattle.pc_edges.specs.Pulls.{TakesPulls}
use Rattle.pc_edges.proofs.PullLaws.{TakesPulls-none, TakesPulls-more, CameIn-consumes}
use Rattle.pc_cert.specs.declared.line.CertLine.{CertLine}
use Rattle.pc_cert.specs.declared.place.Place.TheVariants.{Start}
use Rattle.pc_cert.specs.Lines.{spelling}
use Rattle.pc_cert.specs.Text.{text_of, AreWritable}
use Rattle.pc_cert.proofs.LineLengths.{length-spelling}
use Rattle.pc_crash.specs.Priced.{PricedNetwork}
use Rattle.pc_check.specs.declared.checker.Verdict.{Verdict}
use Rattle.pc_check.specs.declared.audit.AuditError.{AuditError}
use Rattle.pc_check.specs.Stops.{HasNoFailure, IsSettled, IsUnsettled}
use Rattle.pc_check.specs.OwnLines.{first_upper_in_lines, bytes_below, KeepsToOwnLines}
use Rattle.pc_check.proofs.OwnLineLaws.{are_few}
use Rattle.pc_check.proofs.PieceLaws.{CameIn-pulls_and_one}

-- no line is longer than the longest
length-text_of : (lines : List CertLine) → AreWritable lines → length (text_of lines) ≤ length lines * 192
length-text_of [] fit = omega arith
length-text_of (line ∷ lines) fit =
    omega (arith, length-append (spelling line) (10 ∷ text_of lines), length-spelling line (fit.0), length-text_of lines (fit.1))

-- bytes in which no line fails are few
few_bytes : (net : PricedNetwork) (bytes : List ℕ) (h : HasNoFailure net bytes) → length bytes + 1 ≤ bytes_below net (first_upper_in_lines h.lines)
few_bytes net bytes h =
    let few = are_few net h.place h.lines h.led.order h.none in
    omega (arith, ap length h.whole, length-append (text_of h.lines) h.rest, length-text_of h.lines h.led.fit, h.short, few.head, few.all)

-- a source that gave bytes in which no line fails, by no more pulls than these and one
keeps : (net : PricedNetwork) (left left_after : Option (List ℕ)) (pulls pulls_after : Option ℕ) (bytes : List ℕ) →
    Consumes left left_after bytes → HasNoFailure net bytes → TakesPulls (length bytes + 1) pulls pulls_after
    → IfSome left (λ text. KeepsToOwnLines net text pulls pulls_after)
keeps net None left_after pulls pulls_after bytes taken h turns = tt
keeps net (Some text) None pulls pulls_after bytes taken h turns = absurd taken
keeps net (Some text) (Some behind) pulls pulls_after bytes taken h turns = record {
  place = h.place;
  lines = h.lines;
  rest = h.rest ++ behind;
  led = h.led;
  none = h.none;
  whole = taken ∙ ap (λ t. t ++ behind) h.whole ∙ append_assoc (text_of h.lines) h.rest behind;
  turns = TakesPulls-more (length bytes + 1) (bytes_below net (first_upper_in_lines h.lines)) pulls pulls_after (few_bytes net bytes h) turns;
}

-- a source that was audited
pub keeps_to_lines : {X : Type 0} (net : PricedNetwork) (room : ℕ) (left : X → Option (List ℕ)) (faults : X → ℕ) (pulls : X → Option ℕ) (old new : X) (result : Result Verdict AuditError)
    → IfOk result (λ verdict. IsSettled net verdict room left faults pulls old new) → OnErr result (IsUnsettled net left faults pulls old new)
    → IfSome (left old) (λ text. KeepsToOwnLines net text (pulls old) (pulls new))
keeps_to_lines net room left faults pulls old new (Ok verdict) h none =
    keeps net (left old) (left h.before) (pulls old) (pulls new) h.front (CameIn-consumes left faults pulls h.pieces h.front old h.before h.came) h.none
    (CameIn-pulls_and_one left faults pulls h.pieces h.front old h.before (pulls new) h.came h.once)
keeps_to_lines net room left faults pulls old new (Err error) none h =
    keeps net (left old) (left h.before) (pulls old) (pulls new) h.bytes (CameIn-consumes left faults pulls h.pieces h.bytes old h.before h.came) h.none
    (CameIn-pulls_and_one left faults pulls h.pieces h.bytes old h.before (pulls new) h.came h.once)

-- a source from which nothing was pulled
pub unpulled_keeps : (net : PricedNetwork) (left : Option (List ℕ)) (pulls : Option ℕ) → IfSome left (λ text. KeepsToOwnLines net text pulls pulls)
unpulled_keeps net None pulls = tt
unpulled_keeps net (Some text) pulls = record {
  place = Start;
  lines = [];
  rest = text;
  led = record { fit = tt; order = refl };
  none = refl;
  whole = refl;
  turns = TakesPulls-none (bytes_below net 0) pulls;
}
