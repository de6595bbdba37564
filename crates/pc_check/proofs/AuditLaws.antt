-- The state of an audit after a piece.
use Rattle.std.proofs.Common.{◌≡◌, ℕ, ◌+◌, ◌*◌, ◌^◌, ◌<◌, ◌≤◌, List, [], ◌∷◌, ◌++◌, length, Some, None, refl, sym, ap, subst, ◌∙◌, arith, append_assoc, append-nil, length-append}
use Rattle.std.proofs.Math.Nat.{mul-le-mul_right}
use Rattle.std.specs.Prelude.{IfNone}
use Rattle.std.proofs.lemmas.Option.{same_Some}
use Rattle.pc_cert.specs.declared.line.CertLine.{CertLine}
use Rattle.pc_cert.specs.declared.place.Place.{Place}
use Rattle.pc_cert.specs.declared.place.Place.TheVariants.{Start}
use Rattle.pc_text.specs.Fields.{◌>>=◌}
use Rattle.pc_cert.specs.Grammar.{next}
use Rattle.pc_cert.specs.Text.{text_of, ran}
use Rattle.pc_text.proofs.FieldLemmas.{bind_some}
use Rattle.pc_cert.proofs.TextLaws.{ran-append}
use Rattle.pc_cert.specs.Reader.{IsStopped, IsGoing}
use Rattle.pc_cert.specs.inside.Reader.{CertReading, IsGoingOrStopped, ReadsAs}
use Rattle.pc_cert.specs.declared.reader.Malformed.{Malformed}
use Rattle.pc_check.specs.declared.checker.Fail.{Fail}
use Rattle.pc_check.specs.inside.Bounds.{lines_left}
use Rattle.pc_check.specs.Failures.{failure_of}
use Rattle.pc_check.specs.inside.Checking.{Checking, HasCheckedOrFailed, ChecksAs, HasCheckedLines}
use Rattle.pc_check.specs.Texts.{IsFailing, fails, malformed}
use Rattle.pc_check.specs.inside.Auditing.{Auditing, HasRead, IsOngoingAudit, audit_bytes_left}

-- a reader that continues, and a checker
pub reading : (reader : CertReading) (lines : List CertLine) (text : List ℕ) → reader.malformed ≡ None → ReadsAs reader lines text → IsGoing reader.place reader.lines reader.held lines text
reading reader lines text none h = subst (λ m. IsGoingOrStopped m reader.place reader.lines reader.held lines text) none h

pub checking : (checker : Checking) (lines : List CertLine) → checker.fail ≡ None → ChecksAs checker lines → HasCheckedLines checker.net checker.kept lines
checking checker lines none h = subst (λ f. HasCheckedOrFailed checker.net checker.kept f lines) none h

stopped : (reader : CertReading) (lines : List CertLine) (text : List ℕ) (m : Malformed) → reader.malformed ≡ Some m → ReadsAs reader lines text → IsStopped m lines text
stopped reader lines text m is h = subst (λ f. IsGoingOrStopped f reader.place reader.lines reader.held lines text) is h

failed : (checker : Checking) (lines : List CertLine) (fail : Fail) → checker.fail ≡ Some fail → ChecksAs checker lines → failure_of checker.net lines ≡ Some fail
failed checker lines fail is h = subst (λ f. HasCheckedOrFailed checker.net checker.kept f lines) is h

-- the reader may be fed
pub may_feed : (text : List ℕ) (audit : Auditing) → HasRead text audit → IsOngoingAudit audit → IfNone audit.reader.malformed (audit.reader.lines < 2 ^ 63)
may_feed text audit h going =
    let read = reading audit.reader h.lines text going.well_formed h.read in
    let checked = checking audit.checker h.lines going.no_fail h.checked in
    subst (λ m. IfNone m (audit.reader.lines < 2 ^ 63)) (sym going.well_formed) (omega (arith, read.count, checked.count, going.few))

next_of_last : (line : CertLine) (place behind : Place) → ran place (line ∷ []) ≡ Some behind → next place line ≡ Some behind
next_of_last line place behind h = let step = bind_some (next place line) (λ p. ran p []) behind h in step.1 ∙ step.2

-- the checker may take the line that was read, and the next one is where the reader has it
pub may_take : (audit : Auditing) (reader : CertReading) (lines : List CertLine) (line : CertLine) (text : List ℕ) → IsOngoingAudit audit →
    ChecksAs audit.checker lines → reader.malformed ≡ None → ReadsAs reader (lines ++ line ∷ []) text →
    IfNone audit.checker.fail (next audit.checker.kept.place line ≡ Some reader.place)
may_take audit reader lines line text going checked none read =
    let led = (reading reader (lines ++ line ∷ []) text none read).led in
    let before = (checking audit.checker lines going.no_fail checked).order in
    let after : ran audit.checker.kept.place (line ∷ []) ≡ Some reader.place =
    sym (ap (λ found. found >>= (λ p. ran p (line ∷ []))) before) ∙ sym (ran-append Start lines (line ∷ [])) ∙ led.order in
    subst (λ f. IfNone f (next audit.checker.kept.place line ≡ Some reader.place)) (sym going.no_fail) (next_of_last line audit.checker.kept.place reader.place after)

-- a malformed line
pub malformed_fails : (text more piece : List ℕ) (audit : Auditing) (reader : CertReading) (m : Malformed) → IsOngoingAudit audit →
    (h : HasRead text audit) → reader.malformed ≡ Some m → ReadsAs reader (h.lines ++ []) (text ++ piece) →
    IsFailing audit.checker.net (text ++ (piece ++ more)) (record { line = m.line; reason = 0 })
malformed_fails text more piece audit reader m going h is read =
    let stop = stopped reader (h.lines ++ []) (text ++ piece) m is read in
    let here = subst (λ ls. IsStopped m ls (text ++ piece)) (append-nil h.lines) stop in
    malformed h.lines (checking audit.checker h.lines going.no_fail h.checked).none (record {
      place = here.place;
      led = here.led;
      number = here.number;
      bad = here.bad;
      more = here.more ++ more;
      whole = sym (append_assoc text piece more) ∙ ap (λ t. t ++ more) here.whole
          ∙ append_assoc (text_of h.lines) (here.bad ++ here.more) more
          ∙ ap (λ t. text_of h.lines ++ t) (append_assoc here.bad here.more more);
      why = here.why;
    }) refl

-- a line that fails
pub line_fails : (text more piece front rest : List ℕ) (audit : Auditing) (reader : CertReading) (checker : Checking) (lines : List CertLine)
    (fail : Fail) → front ++ rest ≡ piece → reader.malformed ≡ None → ReadsAs reader lines (text ++ front) →
    checker.net ≡ audit.checker.net → checker.fail ≡ Some fail → ChecksAs checker lines →
    IsFailing audit.checker.net (text ++ (piece ++ more)) fail
line_fails text more piece front rest audit reader checker lines fail split none read net is checked =
    let whole = reading reader lines (text ++ front) none read in
    fails reader.place lines (reader.held ++ (rest ++ more)) whole.led
    (ap (λ p. text ++ (p ++ more)) (sym split) ∙ ap (λ t. text ++ t) (append_assoc front rest more)
    ∙ sym (append_assoc text front (rest ++ more)) ∙ ap (λ t. t ++ (rest ++ more)) whole.whole
    ∙ append_assoc (text_of lines) reader.held (rest ++ more))
    (subst (λ n. failure_of n lines ≡ Some fail) net (failed checker lines fail is checked))

-- ---- what is left

-- a piece in which no line ends leaves less
pub less_behind_piece : (old new : Auditing) (piece : List ℕ) → IsOngoingAudit old → 0 < length piece → new.checker ≡ old.checker →
    new.reader.held ≡ old.reader.held ++ piece → audit_bytes_left new < audit_bytes_left old
less_behind_piece old new piece going some same held =
    let long : length new.reader.held ≡ length old.reader.held + length piece = ap length held ∙ length-append old.reader.held piece in
    let lines : lines_left new.checker.net new.checker.kept ≡ lines_left old.checker.net old.checker.kept = ap (λ (c : Checking). lines_left c.net c.kept) same in
    omega (arith, long, ap (λ n. n * 192) lines, going.short, some)

-- and so does a line
pub less_behind_line : (old new : Auditing) → IsOngoingAudit old → lines_left new.checker.net new.checker.kept < lines_left old.checker.net old.checker.kept →
    audit_bytes_left new < audit_bytes_left old
less_behind_line old new going less =
    let more : lines_left new.checker.net new.checker.kept + 1 ≤ lines_left old.checker.net old.checker.kept = omega arith in
    omega (arith, mul-le-mul_right 192 more, going.short)

-- the reader and the checker are at the same place, after as many lines
pub same_place : {text : List ℕ} {audit : Auditing} → IsOngoingAudit audit → HasRead text audit → audit.reader.place ≡ audit.checker.kept.place
same_place {text} {audit} going h =
    same_Some audit.reader.place audit.checker.kept.place
    (sym (reading audit.reader h.lines text going.well_formed h.read).led.order ∙ (checking audit.checker h.lines going.no_fail h.checked).order)

pub same_count : {text : List ℕ} {audit : Auditing} → IsOngoingAudit audit → HasRead text audit → audit.reader.lines ≡ audit.checker.kept.lines
same_count {text} {audit} going h =
    let read = reading audit.reader h.lines text going.well_formed h.read in
    let checked = checking audit.checker h.lines going.no_fail h.checked in
    omega (arith, read.count, checked.count)
