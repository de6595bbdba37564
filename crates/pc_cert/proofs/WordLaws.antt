-- The text of a line is its words one after the other, and the text of lines that of each.
use Rattle.std.proofs.Common.{◌≡◌, ℕ, ◌+◌, Bool, true, false, List, [], ◌∷◌, ◌++◌, refl, sym, ap, ◌∙◌, append_assoc}
use Rattle.std.specs.Prelude.{codes, decimal, map}
use Rattle.std.proofs.lemmas.List.{map-append}
use Rattle.pc_cert.specs.declared.line.CertLine.{CertLine}
use Rattle.pc_cert.specs.declared.line.CertLine.TheVariants.{Head, Step, Segment, Event, Act}
use Rattle.pc_text.specs.Fields.{spaced}
use Rattle.pc_cert.specs.Lines.{numbers}
use Rattle.pc_cert.specs.inside.Fields.{bit_text}
use Rattle.pc_cert.specs.Text.{text_of}
use Rattle.pc_cert.proofs.TextLaws.{text_of-append}
use Rattle.pc_cert.specs.Listed.{listed}
use Rattle.pc_cert.proofs.ListedLaws.{listed-more}

pub head_words : (version : ℕ) (project : List ℕ) (events activities : ℕ)
    → codes "CERT" ++ spaced (decimal version) [] ++ spaced project [] ++ spaced (decimal events) [] ++ spaced
    (decimal activities) [] ++ 10 ∷ [] ≡ text_of (Head version project events activities ∷ [])
head_words version project events activities = simp append_assoc

pub step_words : (code : List ℕ) → codes "STEP" ++ spaced code [] ++ 10 ∷ [] ≡ text_of (Step code ∷ [])
step_words code = simp append_assoc

pub segment_words : (upper lower cost slope : ℕ)
    → codes "SEGMENT" ++ spaced (decimal upper) [] ++ spaced (decimal lower) [] ++ spaced (decimal cost) [] ++ spaced (decimal slope) [] ++ 10 ∷ [] ≡ text_of (Segment upper lower cost slope ∷ [])
segment_words upper lower cost slope = simp append_assoc

pub event_words : (code : List ℕ) (time : ℕ) (moves : Bool) →
    codes "EVENT" ++ spaced code [] ++ spaced (decimal time) [] ++ spaced (bit_text moves) [] ++ 10 ∷ []
    ≡ text_of (Event code time moves ∷ [])
event_words code time true = simp append_assoc
event_words code time false = simp append_assoc

pub act_words : (code : List ℕ) (duration : ℕ) (flows : List ℕ) → codes "ACT" ++ spaced code [] ++ spaced (decimal duration) [] ++ numbers flows ++ 10 ∷ [] ≡ text_of (Act code duration flows ∷ [])
act_words code duration flows = simp append_assoc

pub numbers-append : (ns ms : List ℕ) → numbers (ns ++ ms) ≡ numbers ns ++ numbers ms
numbers-append [] ms = refl
numbers-append (n ∷ ns) ms =
    ap (λ rest. spaced (decimal n) rest) (numbers-append ns ms) ∙ ap (λ rest. 32 ∷ rest) (sym (append_assoc (decimal n) (numbers ns) (numbers ms)))

-- one more of the numbers
pub numbers-more : (n : ℕ) (each : ℕ → ℕ) → numbers (listed n each) ++ spaced (decimal (each n)) [] ≡ numbers (listed (n + 1) each)
numbers-more n each = sym (ap numbers (listed-more n each) ∙ numbers-append (listed n each) (each n ∷ []))

-- one more of the lines
pub text_of-more : (n : ℕ) (line : ℕ → CertLine) → text_of (listed n line) ++ text_of (line n ∷ []) ≡ text_of (listed (n + 1) line)
text_of-more n line = sym (ap text_of (listed-more n line) ∙ text_of-append (listed n line) (line n ∷ []))

-- one more of the lines that a list gives
pub text_of-map : (line : ℕ → CertLine) (walk more : List ℕ) (a : ℕ) → more ≡ walk ++ a ∷ [] → text_of (map line walk) ++ text_of (line a ∷ []) ≡ text_of (map line more)
text_of-map line walk more a is = sym (ap (λ w. text_of (map line w)) is ∙ ap text_of (map-append line walk (a ∷ [])) ∙ text_of-append (map line walk) (line a ∷ []))

-- two lists of lines, with a line before and one after
pub text_of-between : (first : CertLine) (lines others : List CertLine) (last : CertLine) →
    text_of (first ∷ []) ++ (text_of lines ++ text_of others) ++ text_of (last ∷ []) ≡ text_of (first ∷ (lines ++ (others ++ last ∷ [])))
text_of-between first lines others last = simp (text_of-append, append_assoc)

-- two lists of lines, each with its line before it, and a line before both
pub text_of-headed : (first second third : CertLine) (lines others : List CertLine) →
    text_of (first ∷ []) ++ text_of (second ∷ []) ++ text_of lines ++ text_of (third ∷ []) ++ text_of others
    ≡ text_of (first ∷ second ∷ (lines ++ third ∷ others))
text_of-headed first second third lines others = simp (text_of-append, append_assoc)

-- the last of the numbers
pub numbers-with_last : (n : ℕ) (each : ℕ → ℕ) (last : ℕ) → numbers (listed n each) ++ spaced (decimal last) [] ≡ numbers (listed n each ++ last ∷ [])
numbers-with_last n each last = sym (numbers-append (listed n each) (last ∷ []))
