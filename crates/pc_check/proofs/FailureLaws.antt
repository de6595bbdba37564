-- The first failure of lines and one more.
use Rattle.std.proofs.Common.{◌≡◌, ℕ, ◌+◌, List, [], ◌∷◌, ◌++◌, length, Option, Some, None, refl, ap, ◌∙◌, arith}
use Rattle.std.specs.Prelude.{fold}
use Rattle.pc_cert.specs.declared.line.CertLine.{CertLine}
use Rattle.pc_crash.specs.Priced.{PricedNetwork}
use Rattle.pc_check.specs.declared.checker.Fail.{Fail}
use Rattle.pc_check.specs.Draft.{Draft, empty_draft, with_line, draft_of}
use Rattle.pc_check.specs.Failures.{reason_at, or_later, failure_after, failure_of}

pub draft-append : (draft : Draft) (lines others : List CertLine) → fold with_line draft (lines ++ others) ≡ fold with_line (fold with_line draft lines) others
draft-append draft [] others = refl
draft-append draft (line ∷ lines) others = draft-append (with_line draft line) lines others

-- lines that fail keep their first failure when more follow
or_found : (number : ℕ) (reason : Option ℕ) (later more : Option Fail) (fail : Fail) → or_later number reason later ≡ Some fail →
    (later ≡ Some fail → more ≡ Some fail) → or_later number reason more ≡ Some fail
or_found number None later more fail h goes_on = goes_on h
or_found number (Some reason) later more fail h goes_on = h

or_none : (number : ℕ) (reason : Option ℕ) (later more : Option Fail) (found : Option Fail) → or_later number reason later ≡ None → (later ≡ None → more ≡ found) → or_later number reason more ≡ found
or_none number None later more found h goes_on = goes_on h
or_none number (Some reason) later more found h goes_on = absurd cc

failure_stays : (net : PricedNetwork) (draft : Draft) (number : ℕ) (lines others : List CertLine) (fail : Fail) →
    failure_after net draft number lines ≡ Some fail → failure_after net draft number (lines ++ others) ≡ Some fail
failure_stays net draft number [] others fail h = absurd cc
failure_stays net draft number (line ∷ lines) others fail h =
    or_found number (reason_at net draft line) (failure_after net (with_line draft line) (number + 1) lines)
    (failure_after net (with_line draft line) (number + 1) (lines ++ others)) fail h
    (λ later. failure_stays net (with_line draft line) (number + 1) lines others fail later)

failure_comes : (net : PricedNetwork) (draft : Draft) (number : ℕ) (lines : List CertLine) (line : CertLine) →
    failure_after net draft number lines ≡ None →
    failure_after net draft number (lines ++ line ∷ [])
    ≡ or_later (number + length lines) (reason_at net (fold with_line draft lines) line) None
failure_comes net draft number [] line h = ap (λ n. or_later n (reason_at net draft line) None) (omega arith)
failure_comes net draft number (first ∷ lines) line h =
    or_none number (reason_at net draft first) (failure_after net (with_line draft first) (number + 1) lines)
    (failure_after net (with_line draft first) (number + 1) (lines ++ line ∷ []))
    (or_later (number + length (first ∷ lines)) (reason_at net (fold with_line (with_line draft first) lines) line) None) h
    (λ later. failure_comes net (with_line draft first) (number + 1) lines line later ∙ ap (λ n. or_later n (reason_at net (fold with_line (with_line draft first) lines) line) None) (omega arith))

-- a failure stays the first one
pub failure_of-more : (net : PricedNetwork) (lines others : List CertLine) (fail : Fail) → failure_of net lines ≡ Some fail → failure_of net (lines ++ others) ≡ Some fail
failure_of-more net lines others fail h = failure_stays net empty_draft 1 lines others fail h

-- where no line has failed, the next one may
pub failure_of-next : (net : PricedNetwork) (lines : List CertLine) (line : CertLine) → failure_of net lines ≡ None →
    failure_of net (lines ++ line ∷ []) ≡ or_later (1 + length lines) (reason_at net (draft_of lines) line) None
failure_of-next net lines line h = failure_comes net empty_draft 1 lines line h
