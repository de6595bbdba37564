-- No text is both certified and failing.
use Rattle.std.proofs.Common.{◌≡◌, ℕ, ◌≤◌, ◌⊎◌, inl, inr, List, [], ◌∷◌, ◌++◌, length, Some, refl, sym, ap, ◌∙◌, arith, append_assoc, append-nil}
use Rattle.std.proofs.lemmas.Option.{none-some}
use Rattle.pc_cert.specs.declared.line.CertLine.{CertLine}
use Rattle.pc_cert.specs.declared.place.Place.{Place}
use Rattle.pc_cert.specs.declared.place.Place.TheVariants.{Start, Ended}
use Rattle.pc_text.specs.Fields.{◌>>=◌, Lacks}
use Rattle.pc_cert.specs.Grammar.{next}
use Rattle.pc_cert.specs.Lines.{spelling, IsWritable}
use Rattle.pc_cert.specs.Text.{text_of, AreWritable, ran}
use Rattle.pc_text.proofs.FieldLemmas.{bind_some}
use Rattle.pc_cert.proofs.LineLengths.{spelling_lacks_end, length-spelling}
use Rattle.pc_cert.proofs.TextLaws.{spelling_once, split_once, nil_not_cons, lacks_no_stop, ran-append, text_once}
use Rattle.pc_cert.specs.Reader.{IsBadLine, IsTooLong}
use Rattle.pc_crash.specs.Priced.{PricedNetwork}
use Rattle.pc_check.specs.declared.checker.Fail.{Fail}
use Rattle.pc_check.specs.Failures.{failure_of}
use Rattle.pc_check.specs.Certified.{segments_of}
use Rattle.pc_check.proofs.FailureLaws.{failure_of-more}
use Rattle.pc_check.specs.Texts.{IsCertified, IsFailing, fails, malformed, missing}

-- ---- lines at the beginning of a text

-- the lines continue those at the beginning, and their text with it
pub record GoesOn (lines front : List CertLine) (rest : List ℕ) : Type 0 where
  pub more : List CertLine
  pub lines_are : lines ≡ front ++ more
  pub rest_is : text_of more ≡ rest
  pub fit : AreWritable more

-- lines at the beginning of the text of others are the first of these
pub begin_with : (lines front : List CertLine) (rest : List ℕ) → AreWritable lines → AreWritable front → text_of lines ≡ text_of front ++ rest → GoesOn lines front rest
begin_with lines [] rest p q same = record { more = lines; lines_are = refl; rest_is = same; fit = p }
begin_with [] (y ∷ ys) rest p q same =
    absurd (lacks_no_stop 10 (spelling y) [] (text_of ys ++ rest) tt (sym (append_assoc (spelling y) (10 ∷ text_of ys) rest) ∙ sym same))
begin_with (x ∷ xs) (y ∷ ys) rest p q same =
    let parts = split_once 10 (spelling x) (spelling y) (text_of xs) (text_of ys ++ rest) (spelling_lacks_end x (p.0)) (spelling_lacks_end y (q.0))
    (same ∙ append_assoc (spelling y) (10 ∷ text_of ys) rest) in
    let line : x ≡ y = spelling_once x y (p.0) (q.0) (parts.0) in
    let on = begin_with xs ys rest (p.1) (q.1) (parts.1) in
    record { more = on.more; lines_are = ap (λ l. l ∷ xs) line ∙ ap (λ ls. y ∷ ls) on.lines_are; rest_is = on.rest_is; fit = on.fit }

-- ---- a complete text has no line that is malformed or missing

-- the first line after others that lead to a place is allowed there
pub next_line : (place behind : Place) (front more : List CertLine) (line : CertLine) → ran Start front ≡ Some place →
    ran Start (front ++ line ∷ more) ≡ Some behind → (after : Place) × (next place line ≡ Some after)
next_line place behind front more line led whole =
    let goes : ran place (line ∷ more) ≡ Some behind = ap (λ found. found >>= (λ p. ran p (line ∷ more))) (sym led) ∙ sym (ran-append Start front (line ∷ more)) ∙ whole in
    let step = bind_some (next place line) (λ p. ran p more) behind goes in
    (step.0, step.1)

-- a text without an end of a line has no more bytes than a line that continues where it does
pub line_is_longer : (line bad more rest : List ℕ) → Lacks 10 bad → line ++ 10 ∷ rest ≡ bad ++ more → length bad ≤ length line
line_is_longer line [] more rest lacks same = omega arith
line_is_longer [] (b ∷ bad) more rest lacks same = absurd (lacks.0 (let e : 10 ≡ b = cc in sym e))
line_is_longer (x ∷ line) (b ∷ bad) more rest lacks same = let shorter = line_is_longer line bad more rest (lacks.1) cc in omega (arith, shorter)

-- the next line of a complete text is neither one that is not allowed nor one that is too long
pub not_bad : (place after : Place) (line : CertLine) (bad more rest : List ℕ) → IsWritable line → next place line ≡ Some after →
    spelling line ++ 10 ∷ rest ≡ bad ++ more → IsBadLine place bad ⊎ IsTooLong bad → ⊥
not_bad place after line bad more rest fits goes same (inl is) =
    let parts = split_once 10 (spelling line) (is.0) rest more (spelling_lacks_end line fits) (is.1)
    (same ∙ ap (λ t. t ++ more) (is.2) ∙ append_assoc (is.0) (10 ∷ []) more) in
    is.3 line after fits (sym (parts.0)) goes
not_bad place after line bad more rest fits goes same (inr is) =
    omega (arith, line_is_longer (spelling line) bad more rest (is.1) same, is.0, length-spelling line fits)

bad_is_some : (place : Place) (bad more : List ℕ) → IsBadLine place bad ⊎ IsTooLong bad → [] ≡ bad ++ more → ⊥
bad_is_some place bad more (inl is) same = lacks_no_stop 10 (is.0) [] more tt (sym (append_assoc (is.0) (10 ∷ []) more) ∙ ap (λ t. t ++ more) (sym (is.2)) ∙ sym same)
bad_is_some place [] more (inr is) same = omega (arith, is.0)
bad_is_some place (b ∷ bad) more (inr is) same = nil_not_cons (sym same)

-- after lines that lead to a place no line is bad
pub no_bad_line : (place : Place) (front more : List CertLine) (bad rest : List ℕ) → ran Start front ≡ Some place →
    ran Start (front ++ more) ≡ Some Ended → AreWritable more → text_of more ≡ bad ++ rest → IsBadLine place bad ⊎ IsTooLong bad → ⊥
no_bad_line place front [] bad rest led whole fit same bad_is = bad_is_some place bad rest bad_is same
no_bad_line place front (line ∷ more) bad rest led whole fit same bad_is =
    let step = next_line place Ended front more line led whole in
    not_bad place (step.0) line bad rest (text_of more) (fit.0) (step.1) same bad_is

-- no line is missing after the lines of a complete text
pub no_line_lacks : (place : Place) (front more : List CertLine) (held : List ℕ) → ran Start front ≡ Some place →
    ran Start (front ++ more) ≡ Some Ended → Lacks 10 held → text_of more ≡ held → (place ≡ Ended) × (held ≡ [])
no_line_lacks place front [] held led whole lacks same =
    let ends : Some place ≡ Some Ended = sym led ∙ ap (ran Start) (sym (append-nil front)) ∙ whole in
    (cc, sym same)
no_line_lacks place front (line ∷ more) held led whole lacks same = absurd (lacks_no_stop 10 (spelling line) held (text_of more) lacks same)

-- ---- a certified text does not fail

pub not_both : (net : PricedNetwork) (text : List ℕ) (segments : ℕ) (fail : Fail) → IsCertified net text segments → IsFailing net text fail → ⊥
not_both net text segments fail sure (fails place front rest led text_is failing) =
    let on = begin_with sure.lines front rest sure.whole.led.fit led.fit (sym sure.whole.whole ∙ text_is) in
    none-some fail (sym sure.none ∙ ap (failure_of net) on.lines_are ∙ failure_of-more net front on.more fail failing)
not_both net text segments fail sure (malformed front none stop zero_reason) =
    let on = begin_with sure.lines front (stop.bad ++ stop.more) sure.whole.led.fit stop.led.fit (sym sure.whole.whole ∙ stop.whole) in
    no_bad_line stop.place front on.more stop.bad stop.more stop.led.order (ap (ran Start) (sym on.lines_are) ∙ sure.whole.led.order) on.fit on.rest_is stop.why
not_both net text segments fail sure (missing front none lack zero_reason) =
    let on = begin_with sure.lines front lack.held sure.whole.led.fit lack.going.led.fit (sym sure.whole.whole ∙ lack.going.whole) in
    let ends = no_line_lacks lack.place front on.more lack.held lack.going.led.order (ap (ran Start) (sym on.lines_are) ∙ sure.whole.led.order) lack.going.no_end on.rest_is in
    elim lack.why [
      | inl other ↦ other (ends.0)
      | inr some ↦ some (ends.1)
    ]

-- a certified text has one number of segments
pub one_number : (net : PricedNetwork) (text : List ℕ) (segments others : ℕ) → IsCertified net text segments → IsCertified net text others → segments ≡ others
one_number net text segments others a b =
    let same = text_once a.lines b.lines [] [] a.whole.led.fit b.whole.led.fit tt tt (append-nil (text_of a.lines) ∙ sym a.whole.whole ∙ b.whole.whole ∙ sym (append-nil (text_of b.lines))) in
    a.count ∙ ap (λ ls. length (segments_of net ls)) (same.0) ∙ sym b.count
