-- A line's text has no end of a line in it, and fewer than 192 bytes.
use Rattle.std.proofs.Common.{◌≡◌, ℕ, ◌+◌, ◌*◌, ◌<◌, ◌≤◌, Bool, true, false, not, List, [], ◌∷◌, ◌++◌, length, refl, arith, length-append}
use Rattle.std.proofs.lemmas.Bool.Decides.{nat_tests}
use Rattle.std.proofs.lemmas.Fmt.{length-decimal-le}
use Rattle.std.specs.Prelude.{codes, ◌==◌}
use Rattle.std.specs.List.{list_all}
use Rattle.std.specs.Fmt.{decimal}
use Rattle.pc_cert.specs.declared.line.CertLine.{CertLine}
use Rattle.pc_cert.specs.declared.line.CertLine.TheVariants.{Head, Normal, Step, Crash, Segment, Event, Act, Close, End}
use Rattle.pc_text.specs.Fields.{Lacks, spaced, IsCode}
use Rattle.pc_cert.specs.Lines.{numbers, spelling, IsSmall, AreSmall, IsWritable}
use Rattle.pc_cert.specs.inside.Fields.{bit_text}
use Rattle.pc_text.proofs.FieldLemmas.{lacks, code_lacks, decimal_lacks}
use Rattle.pc_cert.proofs.NumberLemmas.{limit}

Lacks-append : (byte : ℕ) (xs ys : List ℕ) → Lacks byte xs → Lacks byte ys → Lacks byte (xs ++ ys)
Lacks-append byte [] ys p q = q
Lacks-append byte (x ∷ xs) ys p q = (p.0, Lacks-append byte xs ys (p.1) q)

-- a text without an end of a line in it, of at most `room` bytes
record IsShort (room : ℕ) (text : List ℕ) : Type 0 where
  open_text : Lacks 10 text
  within : length text ≤ room

-- a word of letters
word : (text : List ℕ) (room : ℕ) → list_all (λ b. not (b == 10)) text ≡ true → length text ≤ room → IsShort room text
word text room h within = record { open_text = lacks (λ b. not (b == 10)) 10 refl text h; within = within }

then : {room more : ℕ} {text rest : List ℕ} → IsShort room text → IsShort more rest → IsShort (room + more) (text ++ rest)
then {text = text} {rest = rest} p q = record {
  open_text = Lacks-append 10 text rest p.open_text q.open_text;
  within = omega (arith, p.within, q.within, length-append text rest);
}

behind : {room more : ℕ} {text rest : List ℕ} → IsShort room text → IsShort more rest → IsShort (1 + room + more) (spaced text rest)
behind {text = text} {rest = rest} p q = record {
  open_text = (λ e. absurd (omega arith), Lacks-append 10 text rest p.open_text q.open_text);
  within = omega (arith, p.within, q.within, length-append text rest);
}

number : (n : ℕ) → IsSmall n → IsShort 18 (decimal n)
number n h = record { open_text = decimal_lacks limit 10 refl n h; within = length-decimal-le 18 n (omega arith) h (omega arith) }

code : (text : List ℕ) → IsCode text → IsShort 16 text
code text h = record { open_text = code_lacks 10 refl text h; within = grind (arith, nat_tests) }

bit : (b : Bool) → IsShort 1 (bit_text b)
bit true = word (codes "1") 1 refl (omega arith)
bit false = word (codes "0") 1 refl (omega arith)

none : IsShort 0 []
none = record { open_text = tt; within = omega arith }

all : (ns : List ℕ) → AreSmall ns → IsShort (19 * length ns) (numbers ns)
all [] h = record { open_text = tt; within = omega arith }
all (n ∷ ns) h =
    let both = behind (number n (h.0)) (all ns (h.1)) in
    record { open_text = both.open_text; within = omega (arith, both.within) }

wider : {room : ℕ} {text : List ℕ} → IsShort room text → room ≤ 191 → IsShort 191 text
wider p h = record { open_text = p.open_text; within = omega (arith, p.within, h) }

-- the text of a line
spelling_is_short : (line : CertLine) → IsWritable line → IsShort 191 (spelling line)
spelling_is_short (Head version project events activities) h =
    wider (then (word (codes "CERT") 4 refl (omega arith))
    (behind (number version (omega (arith, h.0.1)))
    (behind (code project (h.1)) (behind (number events (h.2)) (behind (number activities (h.3)) none))))) (omega arith)
spelling_is_short Normal h = word (codes "NORMAL") 191 refl (omega arith)
spelling_is_short (Step text) h = wider (then (word (codes "STEP") 4 refl (omega arith)) (behind (code text h) none)) (omega arith)
spelling_is_short Crash h = word (codes "CRASH") 191 refl (omega arith)
spelling_is_short (Segment upper lower cost slope) h =
    wider (then (word (codes "SEGMENT") 7 refl (omega arith)) (behind (number upper (h.0)) (behind (number lower (h.1)) (behind (number cost (h.2)) (behind (number slope (h.3)) none))))) (omega arith)
spelling_is_short (Event text time moves) h = wider (then (word (codes "EVENT") 5 refl (omega arith)) (behind (code text (h.0)) (behind (number time (h.1)) (behind (bit moves) none)))) (omega arith)
spelling_is_short (Act text duration flows) h =
    let long = then (word (codes "ACT") 3 refl (omega arith)) (behind (code text (h.0)) (behind (number duration (h.1)) (all flows (h.2)))) in
    record { open_text = long.open_text; within = omega (arith, long.within, h.4) }
spelling_is_short Close h = word (codes "CLOSE") 191 refl (omega arith)
spelling_is_short End h = word (codes "END") 191 refl (omega arith)

-- it has no end of a line in it
pub spelling_lacks_end : (line : CertLine) → IsWritable line → Lacks 10 (spelling line)
spelling_lacks_end line h = (spelling_is_short line h).open_text

-- and fewer than 192 bytes
pub length-spelling : (line : CertLine) → IsWritable line → length (spelling line) < 192
length-spelling line h = omega (arith, (spelling_is_short line h).within)
