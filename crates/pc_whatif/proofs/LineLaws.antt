-- A line that is longer than a line may be is answered as its front is.
use Rattle.std.proofs.Common.{◌≡◌, ℕ, ◌<◌, List, length, None, inl, inr, sym, ap, ◌∙◌, arith, refl}
use Rattle.std.proofs.lemmas.Bool.{cases_lt, lt-ltb}
use Rattle.std.proofs.lemmas.List.{take_all, length-take-le}
use Rattle.pc_whatif.specs.declared.edits.ask.TheConstants.{MAX_LINE}
use Rattle.pc_whatif.specs.edits.Reading.{ask_of}
use Rattle.pc_edges.specs.inside.lines.Reading.{kept}

too_long : (line : List ℕ) → MAX_LINE < length line → ask_of line ≡ None
unfolding ask_of
too_long line long = rw (lt-ltb MAX_LINE (length line) long) refl

-- the stored front of a line has the same request as the line
pub ask_of-kept : (line : List ℕ) → ask_of (kept line) ≡ ask_of line
ask_of-kept line = elim (cases_lt 97 (length line)) [
  | inl long ↦ (let front : length (kept line) ≡ 97 = length-take-le 97 line (omega arith) in
      too_long (kept line) (omega arith) ∙ sym (too_long line (omega arith)))
  | inr short ↦ ap ask_of (take_all 97 line short)
]
