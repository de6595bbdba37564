-- A text has one first failing point.
use Rattle.std.proofs.Common.{◌≡◌, ℕ, ◌+◌, ◌⊎◌, inl, inr, List, [], ◌∷◌, ◌++◌, length, Some, None, refl, sym, ap, ◌∙◌, append_assoc, append-nil}
use Rattle.std.proofs.lemmas.Option.{none-some, same_Some}
use Rattle.pc_cert.specs.declared.line.CertLine.{CertLine}
use Rattle.pc_cert.specs.declared.place.Place.{Place}
use Rattle.pc_cert.specs.declared.place.Place.TheVariants.{Start}
use Rattle.pc_cert.specs.Lines.{spelling}
use Rattle.pc_cert.specs.Text.{text_of, AreWritable, ran, LeadTo}
use Rattle.pc_cert.proofs.LineLengths.{spelling_lacks_end}
use Rattle.pc_cert.proofs.TextLaws.{spelling_once, split_once, lacks_no_stop}
use Rattle.pc_cert.specs.Reader.{IsStopped, IsMissing}
use Rattle.pc_crash.specs.Priced.{PricedNetwork}
use Rattle.pc_check.specs.declared.checker.Fail.{Fail}
use Rattle.pc_check.specs.Failures.{failure_of}
use Rattle.pc_check.proofs.FailureLaws.{failure_of-more}
use Rattle.pc_check.specs.Texts.{IsFailing, fails, malformed, missing}
use Rattle.pc_check.proofs.TextLaws.{next_line, not_bad}

-- ---- lines at the beginning of one text

-- the lines continue those at the front, and what follows them with it
record Goes (lines front : List CertLine) (rest behind : List ℕ) : Type 0 where
  pub more : List CertLine
  pub lines_are : lines ≡ front ++ more
  pub behind_is : behind ≡ text_of more ++ rest
  pub fit : AreWritable more

put_before : {x y : CertLine} {xs ys : List CertLine} {a b : List ℕ} → x ≡ y → Goes xs ys a b → Goes (x ∷ xs) (y ∷ ys) a b
put_before {x} {y} {xs} {ys} line on = record {
  more = on.more;
  lines_are = ap (λ l. l ∷ xs) line ∙ ap (λ ls. y ∷ ls) on.lines_are;
  behind_is = on.behind_is;
  fit = on.fit;
}

-- of two lists of lines at the beginning of one text one continues the other
either : (xs ys : List CertLine) (a b : List ℕ) → AreWritable xs → AreWritable ys → text_of xs ++ a ≡ text_of ys ++ b → Goes xs ys a b ⊎ Goes ys xs b a
either xs [] a b p q same = inl (record { more = xs; lines_are = refl; behind_is = sym same; fit = p })
either [] (y ∷ ys) a b p q same = inr (record { more = y ∷ ys; lines_are = refl; behind_is = same; fit = q })
either (x ∷ xs) (y ∷ ys) a b p q same =
    let parts = split_once 10 (spelling x) (spelling y) (text_of xs ++ a) (text_of ys ++ b) (spelling_lacks_end x (p.0)) (spelling_lacks_end y (q.0))
    (sym (append_assoc (spelling x) (10 ∷ text_of xs) a) ∙ same ∙ append_assoc (spelling y) (10 ∷ text_of ys) b) in
    let line : x ≡ y = spelling_once x y (p.0) (q.0) (parts.0) in
    elim (either xs ys a b (p.1) (q.1) (parts.1)) [
      | inl on ↦ inl (put_before line on)
      | inr on ↦ inr (put_before (sym line) on)
    ]

-- ---- points

-- a point after lines none of which fails: of a line that is malformed or missing. What follows these lines begins with no line
-- that is allowed there
record IsBroken (net : PricedNetwork) (text : List ℕ) (fail : Fail) : Type 0 where
  pub lines : List CertLine
  pub rest : List ℕ
  pub place : Place
  pub fit : AreWritable lines
  pub led : ran Start lines ≡ Some place
  pub none : failure_of net lines ≡ None
  pub whole : text ≡ text_of lines ++ rest
  pub line : fail.line ≡ length lines + 1
  pub zero_reason : fail.reason ≡ 0
  pub stops : (others : List CertLine) (line : CertLine) (more : List CertLine) (behind : List ℕ) (place : Place) →
      others ≡ lines ++ line ∷ more → ran Start others ≡ Some place → AreWritable (line ∷ more) → rest ≡ text_of (line ∷ more) ++ behind → ⊥

broken_malformed : (net : PricedNetwork) (text : List ℕ) (fail : Fail) (lines : List CertLine) → failure_of net lines ≡ None →
    IsStopped (record { line = fail.line }) lines text → fail.reason ≡ 0 → IsBroken net text fail
broken_malformed net text fail lines none stop zero_reason = record {
  lines = lines;
  rest = stop.bad ++ stop.more;
  place = stop.place;
  fit = stop.led.fit;
  led = stop.led.order;
  none = none;
  whole = stop.whole;
  line = stop.number;
  zero_reason = zero_reason;
  stops = λ others line more behind place others_are ends fit same.
      let step = next_line stop.place place lines more line stop.led.order (ap (ran Start) (sym others_are) ∙ ends) in
      not_bad stop.place (step.0) line stop.bad stop.more (text_of more ++ behind) (fit.0) (step.1)
      (sym (append_assoc (spelling line) (10 ∷ text_of more) behind) ∙ sym same) stop.why;
}

broken_missing : (net : PricedNetwork) (text : List ℕ) (fail : Fail) (lines : List CertLine) → failure_of net lines ≡ None →
    IsMissing (record { line = fail.line }) lines text → fail.reason ≡ 0 → IsBroken net text fail
broken_missing net text fail lines none lack zero_reason = record {
  lines = lines;
  rest = lack.held;
  place = lack.place;
  fit = lack.going.led.fit;
  led = lack.going.led.order;
  none = none;
  whole = lack.going.whole;
  line = lack.number;
  zero_reason = zero_reason;
  stops = λ others line more behind place others_are ends fit same.
      lacks_no_stop 10 (spelling line) lack.held (text_of more ++ behind) lack.going.no_end (sym (append_assoc (spelling line) (10 ∷ text_of more) behind) ∙ sym same);
}

abbrev point : ℕ → ℕ → Fail
point line reason = record { line = line; reason = reason }

same_point : (x y : Fail) → x.line ≡ y.line → x.reason ≡ y.reason → x ≡ y
same_point x y e f = ap (λ line. point line x.reason) e ∙ ap (point y.line) f

module _ (net : PricedNetwork) (text : List ℕ) where
  same_lines : (f g : Fail) (a : IsBroken net text f) (b : IsBroken net text g) (more : List CertLine) → a.lines ≡ b.lines ++ more → b.rest ≡ text_of more ++ a.rest → AreWritable more → f ≡ g
  same_lines f g a b [] lines_are behind_is fit =
      same_point f g (a.line ∙ ap (λ ls. length ls + 1) (lines_are ∙ append-nil b.lines) ∙ sym b.line) (a.zero_reason ∙ sym b.zero_reason)
  same_lines f g a b (line ∷ more) lines_are behind_is fit = absurd (b.stops a.lines line more a.rest a.place lines_are a.led fit behind_is)

  -- two points after lines none of which fails are one
  broken_once : (f g : Fail) → IsBroken net text f → IsBroken net text g → f ≡ g
  broken_once f g a b =
      elim (either a.lines b.lines a.rest b.rest a.fit b.fit (sym a.whole ∙ b.whole)) [
        | inl on ↦ same_lines f g a b on.more on.lines_are on.behind_is on.fit
        | inr on ↦ sym (same_lines g f b a on.more on.lines_are on.behind_is on.fit)
      ]

  line_stands : (g : Fail) (b : IsBroken net text g) (f : Fail) (place : Place) (lines more : List CertLine) (rest : List ℕ) →
      LeadTo place lines → failure_of net lines ≡ Some f → lines ≡ b.lines ++ more → b.rest ≡ text_of more ++ rest → AreWritable more → ⊥
  line_stands g b f place lines [] rest led failing lines_are behind_is fit = none-some f (sym b.none ∙ ap (failure_of net) (sym (lines_are ∙ append-nil b.lines)) ∙ failing)
  line_stands g b f place lines (line ∷ more) rest led failing lines_are behind_is fit = b.stops lines line more rest place lines_are led.order fit behind_is

  -- a text with such a point has no line that fails
  broken_not_failing : (g : Fail) (b : IsBroken net text g) (f : Fail) (place : Place) (lines : List CertLine) (rest : List ℕ) →
      LeadTo place lines → text ≡ text_of lines ++ rest → failure_of net lines ≡ Some f → ⊥
  broken_not_failing g b f place lines rest led text_is failing =
      elim (either lines b.lines rest b.rest led.fit b.fit (sym text_is ∙ b.whole)) [
        | inl on ↦ line_stands g b f place lines on.more rest led failing on.lines_are on.behind_is on.fit
        | inr on ↦ none-some f (sym b.none ∙ ap (failure_of net) on.lines_are ∙ failure_of-more net lines on.more f failing)
      ]

  -- lines that fail do so once
  fails_once : (f g : Fail) (xs ys : List CertLine) (a b : List ℕ) → AreWritable xs → AreWritable ys → text ≡ text_of xs ++ a →
      text ≡ text_of ys ++ b → failure_of net xs ≡ Some f → failure_of net ys ≡ Some g → f ≡ g
  fails_once f g xs ys a b p q text_is also f_fails g_fails =
      elim (either xs ys a b p q (sym text_is ∙ also)) [
        | inl on ↦ same_Some f g (sym f_fails ∙ ap (failure_of net) on.lines_are ∙ failure_of-more net ys on.more g g_fails)
        | inr on ↦ sym (same_Some g f (sym g_fails ∙ ap (failure_of net) on.lines_are ∙ failure_of-more net xs on.more f f_fails))
      ]

  against_broken : (f g : Fail) → IsFailing net text f → IsBroken net text g → f ≡ g
  against_broken f g (fails place lines rest led text_is failing) b = absurd (broken_not_failing g b f place lines rest led text_is failing)
  against_broken f g (malformed lines none stop zero_reason) b = broken_once f g (broken_malformed net text f lines none stop zero_reason) b
  against_broken f g (missing lines none lack zero_reason) b = broken_once f g (broken_missing net text f lines none lack zero_reason) b

  against_failing : (f g : Fail) (place : Place) (lines : List CertLine) (rest : List ℕ) → LeadTo place lines →
      text ≡ text_of lines ++ rest → failure_of net lines ≡ Some g → IsFailing net text f → f ≡ g
  against_failing f g place lines rest led text_is failing (fails at others behind leads also other_fails) = fails_once f g others lines behind rest leads.fit led.fit also text_is other_fails failing
  against_failing f g place lines rest led text_is failing (malformed others none stop zero_reason) =
      absurd (broken_not_failing f (broken_malformed net text f others none stop zero_reason) g place lines rest led text_is failing)
  against_failing f g place lines rest led text_is failing (missing others none lack zero_reason) =
      absurd (broken_not_failing f (broken_missing net text f others none lack zero_reason) g place lines rest led text_is failing)

  -- a text has one first failing point
  pub one_failure : (f g : Fail) → IsFailing net text f → IsFailing net text g → f ≡ g
  one_failure f g a (fails place lines rest led text_is failing) = against_failing f g place lines rest led text_is failing a
  one_failure f g a (malformed lines none stop zero_reason) = against_broken f g a (broken_malformed net text g lines none stop zero_reason)
  one_failure f g a (missing lines none lack zero_reason) = against_broken f g a (broken_missing net text g lines none lack zero_reason)
