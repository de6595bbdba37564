-- The lines of a text that is made of lines.
use Rattle.std.proofs.Common.{◌≡◌, ◌≢◌, ℕ, ◌+◌, ◌<◌, Bool, true, false, List, [], ◌∷◌, ◌++◌, length, take, drop, refl, sym, ap, ◌∙◌, arith, append_assoc, append-nil, add-one}
use Rattle.std.proofs.lemmas.Bool.{eqb-true, eqb-false, ne_eqb}
use Rattle.std.specs.Prelude.{◌==◌}
use Rattle.pc_text.specs.Fields.{run_len}
use Rattle.pc_edges.specs.lines.Lines.{lines_behind, whole_lines, open_behind, last_line, lines_of}
use Rattle.pc_edges.specs.inside.lines.Lines.{text_of_lines, IsOpen, AreOpen}

-- ---- where lines end

-- a text in which a line ends is that line, its end and the rest
pub line-splits : (bytes : List ℕ) → run_len 10 bytes < length bytes
    → (bytes ≡ take (run_len 10 bytes) bytes ++ 10 ∷ drop (run_len 10 bytes + 1) bytes) × IsOpen (take (run_len 10 bytes) bytes)
line-splits [] less = absurd (omega (arith, less))
line-splits (b ∷ bytes) less = splits_by b bytes (b == 10) refl (line-splits bytes) less where
  splits_by : (b : ℕ) (bytes : List ℕ) (test : Bool) → (b == 10) ≡ test
      → (run_len 10 bytes < length bytes → (bytes ≡ take (run_len 10 bytes) bytes ++ 10 ∷ drop (run_len 10 bytes + 1) bytes) × IsOpen (take (run_len 10 bytes) bytes))
      → run_len 10 (b ∷ bytes) < length (b ∷ bytes)
      → (b ∷ bytes ≡ take (run_len 10 (b ∷ bytes)) (b ∷ bytes) ++ 10 ∷ drop (run_len 10 (b ∷ bytes) + 1) (b ∷ bytes)) × IsOpen (take (run_len 10 (b ∷ bytes)) (b ∷ bytes))
  splits_by b bytes true is tail less = rw is (ap (λ first. first ∷ bytes) (eqb-true b 10 is), tt)
  splits_by b bytes false is tail less =
      let below : run_len 10 bytes < length bytes = omega (arith, rw is at less) in
      let parts = tail below in
      rw (is, add-one) (ap (λ l. b ∷ l) (rw add-one at (parts.0)), (eqb-false b 10 is, parts.1))

-- a text in which no line ends
pub line-open : (bytes : List ℕ) → run_len 10 bytes ≡ length bytes → IsOpen bytes
line-open [] is = tt
line-open (b ∷ bytes) is = open_by b bytes (b == 10) refl (line-open bytes) is where
  open_by : (b : ℕ) (bytes : List ℕ) (test : Bool) → (b == 10) ≡ test → (run_len 10 bytes ≡ length bytes → IsOpen bytes)
      → run_len 10 (b ∷ bytes) ≡ length (b ∷ bytes) → IsOpen (b ∷ bytes)
  open_by b bytes true here tail is = absurd (omega (arith, rw here at is))
  open_by b bytes false here tail is = (eqb-false b 10 here, tail (omega (arith, rw here at is)))

pub IsOpen-append : (front back : List ℕ) → IsOpen front → IsOpen back → IsOpen (front ++ back)
IsOpen-append [] back p q = q
IsOpen-append (b ∷ front) back p q = (p.0, IsOpen-append front back (p.1) q)

-- ---- texts of lines

pub text_of_lines-more : (lines : List (List ℕ)) (line : List ℕ) → text_of_lines (lines ++ line ∷ []) ≡ text_of_lines lines ++ (line ++ 10 ∷ [])
text_of_lines-more [] line = refl
text_of_lines-more (first ∷ lines) line =
    ap (λ rest. first ++ 10 ∷ rest) (text_of_lines-more lines line) ∙ sym (append_assoc first (10 ∷ text_of_lines lines) (line ++ 10 ∷ []))

pub AreOpen-more : (lines : List (List ℕ)) (line : List ℕ) → AreOpen lines → IsOpen line → AreOpen (lines ++ line ∷ [])
AreOpen-more [] line p q = (q, tt)
AreOpen-more (first ∷ lines) line p q = (p.0, AreOpen-more lines line (p.1) q)

lines_behind-end : (front back rest : List ℕ) → IsOpen back → lines_behind front (back ++ 10 ∷ rest) ≡ (front ++ back) ∷ lines_behind [] rest
lines_behind-end front [] rest p = ap (λ line. line ∷ lines_behind [] rest) (sym (append-nil front))
lines_behind-end front (b ∷ back) rest p =
    rw (ne_eqb b 10 (p.0)) (lines_behind-end (front ++ b ∷ []) back rest (p.1) ∙ ap (λ line. line ∷ lines_behind [] rest) (append_assoc front (b ∷ []) back))

lines_behind-open : (front back : List ℕ) → IsOpen back → lines_behind front back ≡ []
lines_behind-open front [] p = refl
lines_behind-open front (b ∷ back) p = rw (ne_eqb b 10 (p.0)) (lines_behind-open (front ++ b ∷ []) back (p.1))

open_behind-end : (front back rest : List ℕ) → IsOpen back → open_behind front (back ++ 10 ∷ rest) ≡ open_behind [] rest
open_behind-end front [] rest p = refl
open_behind-end front (b ∷ back) rest p = rw (ne_eqb b 10 (p.0)) (open_behind-end (front ++ b ∷ []) back rest (p.1))

open_behind-open : (front back : List ℕ) → IsOpen back → open_behind front back ≡ front ++ back
open_behind-open front [] p = sym (append-nil front)
open_behind-open front (b ∷ back) p =
    rw (ne_eqb b 10 (p.0)) (open_behind-open (front ++ b ∷ []) back (p.1) ∙ append_assoc front (b ∷ []) back)

-- the complete lines of a text of lines and of a rest in which no line ends are these lines
pub whole_lines-are : (lines : List (List ℕ)) (rest : List ℕ) → AreOpen lines → IsOpen rest → whole_lines (text_of_lines lines ++ rest) ≡ lines
whole_lines-are [] rest p q = lines_behind-open [] rest q
whole_lines-are (line ∷ lines) rest p q =
    ap (lines_behind []) (append_assoc line (10 ∷ text_of_lines lines) rest)
    ∙ lines_behind-end [] line (text_of_lines lines ++ rest) (p.0)
    ∙ ap (λ others. line ∷ others) (whole_lines-are lines rest (p.1) q)

open_line-is : (lines : List (List ℕ)) (rest : List ℕ) → AreOpen lines → IsOpen rest → open_behind [] (text_of_lines lines ++ rest) ≡ rest
open_line-is [] rest p q = open_behind-open [] rest q
open_line-is (line ∷ lines) rest p q =
    ap (open_behind []) (append_assoc line (10 ∷ text_of_lines lines) rest)
    ∙ open_behind-end [] line (text_of_lines lines ++ rest) (p.0)
    ∙ open_line-is lines rest (p.1) q

-- and all its lines are these and the rest, where it is not empty
pub lines_of-are : (lines : List (List ℕ)) (rest : List ℕ) → AreOpen lines → IsOpen rest → lines_of (text_of_lines lines ++ rest) ≡ lines ++ last_line rest
lines_of-are lines rest p q = rw (whole_lines-are lines rest p q, open_line-is lines rest p q) refl

-- lines at the front of a text are its first lines, however the text continues
pub whole_lines-front : (lines : List (List ℕ)) (rest : List ℕ) → AreOpen lines → whole_lines (text_of_lines lines ++ rest) ≡ lines ++ whole_lines rest
whole_lines-front [] rest p = refl
whole_lines-front (line ∷ lines) rest p =
    ap (lines_behind []) (append_assoc line (10 ∷ text_of_lines lines) rest)
    ∙ lines_behind-end [] line (text_of_lines lines ++ rest) (p.0)
    ∙ ap (λ others. line ∷ others) (whole_lines-front lines rest (p.1))

open_line-front : (lines : List (List ℕ)) (rest : List ℕ) → AreOpen lines → open_behind [] (text_of_lines lines ++ rest) ≡ open_behind [] rest
open_line-front [] rest p = refl
open_line-front (line ∷ lines) rest p =
    ap (open_behind []) (append_assoc line (10 ∷ text_of_lines lines) rest)
    ∙ open_behind-end [] line (text_of_lines lines ++ rest) (p.0)
    ∙ open_line-front lines rest (p.1)

pub lines_of-front : (lines : List (List ℕ)) (rest : List ℕ) → AreOpen lines → lines_of (text_of_lines lines ++ rest) ≡ lines ++ lines_of rest
lines_of-front lines rest p =
    rw (whole_lines-front lines rest p, open_line-front lines rest p) (append_assoc lines (whole_lines rest) (last_line (open_behind [] rest)))

pub last_line-some : (rest : List ℕ) → rest ≢ [] → last_line rest ≡ rest ∷ []
last_line-some [] p = absurd (p refl)
last_line-some (b ∷ bytes) p = refl
