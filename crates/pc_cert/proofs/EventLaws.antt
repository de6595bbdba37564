-- The line of an event that comes again with another time or another bit.
use Rattle.std.proofs.Common.{◌≡◌, ℕ, ◌+◌, ◌-◌, ◌≤◌, Bool, List, ◌∷◌, ◌++◌, length, take, drop, Some, sym, ap, subst, ◌∙◌, arith, append_assoc, length-append}
use Rattle.std.specs.Prelude.{codes}
use Rattle.std.specs.Fmt.{decimal}
use Rattle.std.proofs.Math.Seq.{take-append_seam}
use Rattle.std.proofs.lemmas.Bool.Decides.{nat_tests}
use Rattle.std.proofs.lemmas.List.{take-append-drop, length-drop}
use Rattle.pc_cert.specs.declared.line.CertLine.{CertLine}
use Rattle.pc_cert.specs.declared.line.CertLine.TheVariants.{Event}
use Rattle.pc_text.specs.Fields.{run_len, spaced, IsCode}
use Rattle.pc_cert.specs.Lines.{IsWritable, spelling, IsSmall}
use Rattle.pc_cert.specs.inside.Fields.{bit_text}
use Rattle.pc_cert.specs.inside.Reading.{line_of}
use Rattle.pc_cert.specs.inside.Known.{IsAgain, IsEventFront}
use Rattle.pc_text.proofs.FieldLemmas.{run_len-before}
use Rattle.pc_cert.proofs.LineLaws.{line_again}
use Rattle.pc_cert.proofs.LineLengths.{spelling_lacks_end}
use Rattle.pc_cert.proofs.NumberLemmas.{rest_is}

-- the bytes after the code, with the end of the line
abbrev behind_code : ℕ → Bool → List ℕ → List ℕ
behind_code time moves more = spaced (decimal time) (spaced (bit_text moves) (10 ∷ more))

spelled_behind : (code more : List ℕ) (time : ℕ) (moves : Bool) → spelling (Event code time moves) ++ 10 ∷ more ≡ (codes "EVENT" ++ 32 ∷ code) ++ behind_code time moves more
spelled_behind code more time moves = simp append_assoc

-- the bytes up to the end of the code
pub front_of : (code tail : List ℕ) → take (length code + 6) ((codes "EVENT" ++ 32 ∷ code) ++ tail) ≡ codes "EVENT" ++ 32 ∷ code
front_of code tail =
    let front = codes "EVENT" ++ 32 ∷ code in
    let long : length code + 6 ≡ length front = omega arith in
    ap (λ n. take n (front ++ tail)) long ∙ take-append_seam front tail

-- a code has at most 16 bytes
pub short_code : (code : List ℕ) → IsCode code → length code + 6 ≤ 32
short_code code is = grind (arith, nat_tests)

-- a line and its end at the front of a piece
spelled_again : (line : CertLine) (piece more : List ℕ) (used : ℕ) → IsWritable line → piece ≡ spelling line ++ 10 ∷ more → used + length more ≡ length piece → IsAgain (Some line) piece used
spelled_again line piece more used fits whole long =
    let run : run_len 10 piece ≡ length (spelling line) = ap (run_len 10) whole ∙ run_len-before 10 (spelling line) more (spelling_lacks_end line fits) in
    let before : take (run_len 10 piece) piece ≡ spelling line =
    ap (λ n. take n piece) run ∙ ap (take (length (spelling line))) whole ∙ take-append_seam (spelling line) (10 ∷ more) in
    record {
      within = omega arith;
      ends = omega (arith, run, ap length whole, length-append (spelling line) (10 ∷ more));
      read = ap line_of before ∙ line_again line fits;
    }

-- after the front of an event's line comes a time, and what follows the line is a part of the piece
pub record IsReadBehind (n : ℕ) (piece rest more : List ℕ) (time : ℕ) : Type 0 where
  pub behind : drop n piece ≡ spaced (decimal time) rest
  pub within : length more ≤ length piece

pub read_behind : (n : ℕ) (piece rest more : List ℕ) (time : ℕ) (moves : Bool) → take (length piece - n) (drop n piece) ≡ spaced (decimal time) rest
    → rest ≡ spaced (bit_text moves) (10 ∷ more) → IsReadBehind n piece rest more time
read_behind n piece rest more time moves text last =
    let behind : drop n piece ≡ spaced (decimal time) rest = sym (rest_is n piece) ∙ text in
    record {
      behind = behind;
      within = omega (arith, ap length behind, ap length last, length-append (decimal time) rest, length-append (bit_text moves) (10 ∷ more), length-drop n piece);
    }

-- after the front of an event's line come a time, a bit and the end of the line; the name that is read of the event is
-- its code
pub event_comes : (code name known piece rest more : List ℕ) (time : ℕ) (moves : Bool) → name ≡ code → IsCode name → IsEventFront code known
    → take (length name + 6) piece ≡ take (length name + 6) known → IsReadBehind (length name + 6) piece rest more time → IsSmall time
    → rest ≡ spaced (bit_text moves) (10 ∷ more) → IsAgain (Some (Event code time moves)) piece (length piece - length more)
event_comes code name known piece rest more time moves named code_is front same read small last =
    let n = length name + 6 in
    let begins : take n known ≡ codes "EVENT" ++ 32 ∷ name = (subst (λ c. IsEventFront c known) (sym named) front).same in
    let whole : piece ≡ spelling (Event name time moves) ++ 10 ∷ more =
    sym (take-append-drop n piece) ∙ ap (λ t. t ++ drop n piece) (same ∙ begins)
    ∙ ap (λ t. (codes "EVENT" ++ 32 ∷ name) ++ t) (read.behind ∙ ap (spaced (decimal time)) last) ∙ sym (spelled_behind name more time moves) in
    subst (λ c. IsAgain (Some (Event c time moves)) piece (length piece - length more)) named
    (spelled_again (Event name time moves) piece more (length piece - length more) (code_is, small) whole (omega (arith, read.within)))
