-- Texts of lines: no text is that of two lists of lines.
use Rattle.std.proofs.Common.{◌≡◌, ℕ, List, [], ◌∷◌, ◌++◌, Option, Some, None, refl, sym, ap, ◌∙◌, append_assoc}
use Rattle.pc_cert.specs.declared.line.CertLine.{CertLine}
use Rattle.pc_cert.specs.declared.place.Place.{Place}
use Rattle.pc_cert.specs.declared.place.Place.TheVariants.{Start}
use Rattle.pc_text.specs.Fields.{◌>>=◌, Lacks}
use Rattle.pc_cert.specs.Lines.{spelling, IsWritable}
use Rattle.pc_cert.specs.inside.Reading.{line_of}
use Rattle.pc_cert.specs.Grammar.{next}
use Rattle.pc_cert.specs.Text.{text_of, AreWritable, ran, LeadTo}
use Rattle.pc_cert.proofs.LineLaws.{line_again}
use Rattle.pc_cert.proofs.LineLengths.{spelling_lacks_end}

-- two lines with one text are one line
pub spelling_once : (a b : CertLine) → IsWritable a → IsWritable b → spelling a ≡ spelling b → a ≡ b
spelling_once a b p q same = let read : Some a ≡ Some b = sym (line_again a p) ∙ ap line_of same ∙ line_again b q in cc

-- two texts that continue after their first `stop` have the same front and the same rest
pub split_once : (stop : ℕ) (a b x y : List ℕ) → Lacks stop a → Lacks stop b → a ++ stop ∷ x ≡ b ++ stop ∷ y → (a ≡ b) × (x ≡ y)
split_once stop [] [] x y p q same = (refl, cc)
split_once stop [] (d ∷ b) x y p q same = absurd (q.0 (let e : stop ≡ d = cc in sym e))
split_once stop (c ∷ a) [] x y p q same = absurd (p.0 (let e : c ≡ stop = cc in e))
split_once stop (c ∷ a) (d ∷ b) x y p q same =
    let heads : c ≡ d = cc in
    let rest = split_once stop a b x y (p.1) (q.1) cc in
    (rw (heads, rest.0) refl, rest.1)

pub nil_not_cons : {x : ℕ} {xs : List ℕ} → x ∷ xs ≡ [] → ⊥
nil_not_cons e = absurd cc

-- a text without `stop` has none in front of anything
pub lacks_no_stop : (stop : ℕ) (a b x : List ℕ) → Lacks stop b → a ++ stop ∷ x ≡ b → ⊥
lacks_no_stop stop [] [] x q same = absurd (let e : stop ∷ x ≡ [] = same in nil_not_cons e)
lacks_no_stop stop [] (d ∷ b) x q same = q.0 (let e : d ≡ stop = cc in e)
lacks_no_stop stop (c ∷ a) [] x q same = absurd (nil_not_cons same)
lacks_no_stop stop (c ∷ a) (d ∷ b) x q same = lacks_no_stop stop a b x (q.1) cc

-- the text of lines and one more
pub text_of-append : (lines others : List CertLine) → text_of (lines ++ others) ≡ text_of lines ++ text_of others
text_of-append [] others = refl
text_of-append (line ∷ lines) others =
    ap (λ rest. spelling line ++ 10 ∷ rest) (text_of-append lines others) ∙ sym (append_assoc (spelling line) (10 ∷ text_of lines) (text_of others))

pub AllFit-append : (lines others : List CertLine) → AreWritable lines → AreWritable others → AreWritable (lines ++ others)
AllFit-append [] others p q = q
AllFit-append (line ∷ lines) others p q = (p.0, AllFit-append lines others (p.1) q)

of : (found : Option Place) (lines others : List CertLine) →
    ((p : Place) → ran p (lines ++ others) ≡ (ran p lines >>= (λ behind. ran behind others))) →
    (found >>= (λ p. ran p (lines ++ others))) ≡ ((found >>= (λ p. ran p lines)) >>= (λ behind. ran behind others))
of None lines others h = refl
of (Some p) lines others h = h p

pub ran-append : (place : Place) (lines others : List CertLine) → ran place (lines ++ others) ≡ (ran place lines >>= (λ behind. ran behind others))
ran-append place [] others = refl
ran-append place (line ∷ lines) others = of (next place line) lines others (λ p. ran-append p lines others)

-- one more line
pub LeadTo-more : {place behind : Place} {lines : List CertLine} (line : CertLine) → LeadTo place lines → IsWritable line → next place line ≡ Some behind → LeadTo behind (lines ++ line ∷ [])
LeadTo-more {place} {behind} {lines} line led fits goes = record {
  fit = AllFit-append lines (line ∷ []) led.fit (fits, tt);
  order = ran-append Start lines (line ∷ []) ∙ ap (λ found. found >>= (λ at. ran at (line ∷ []))) led.order ∙ ap (λ found. found >>= (λ at. ran at [])) goes;
}

-- no text is that of two lists of lines with rests that have no complete line
pub text_once : (xs ys : List CertLine) (a b : List ℕ) → AreWritable xs → AreWritable ys → Lacks 10 a → Lacks 10 b → text_of xs ++ a ≡ text_of ys ++ b → (xs ≡ ys) × (a ≡ b)
text_once [] [] a b p q open_a open_b same = (refl, same)
text_once [] (y ∷ ys) a b p q open_a open_b same = absurd (lacks_no_stop 10 (spelling y) a (text_of ys ++ b) open_a (sym (append_assoc (spelling y) (10 ∷ text_of ys) b) ∙ sym same))
text_once (x ∷ xs) [] a b p q open_a open_b same = absurd (lacks_no_stop 10 (spelling x) b (text_of xs ++ a) open_b (sym (append_assoc (spelling x) (10 ∷ text_of xs) a) ∙ same))
text_once (x ∷ xs) (y ∷ ys) a b p q open_a open_b same =
    let parts = split_once 10 (spelling x) (spelling y) (text_of xs ++ a) (text_of ys ++ b) (spelling_lacks_end x (p.0)) (spelling_lacks_end y (q.0))
    (sym (append_assoc (spelling x) (10 ∷ text_of xs) a) ∙ same ∙ append_assoc (spelling y) (10 ∷ text_of ys) b) in
    let line : x ≡ y = spelling_once x y (p.0) (q.0) (parts.0) in
    let rest = text_once xs ys a b (p.1) (q.1) open_a open_b (parts.1) in
    (rw (line, rest.0) refl, rest.1)
