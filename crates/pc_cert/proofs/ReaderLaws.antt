-- The state of a reader after a piece.
use Rattle.std.proofs.Common.{◌≡◌, ℕ, ◌+◌, ◌-◌, ◌<◌, ◌≤◌, zero, suc, List, [], ◌∷◌, ◌++◌, length, take, drop, inl, inr, Option, Some, None}
use Rattle.std.proofs.Common.{Result, Ok, Err, refl, sym, ap, subst, ◌∙◌, append_assoc, append-nil, arith, add-one, length-append}
use Rattle.std.proofs.lemmas.Bool.Decides.{eqb_tells}
use Rattle.std.proofs.lemmas.List.{take-append-drop, length-take, take_all}
use Rattle.std.specs.Prelude.{option_to_list}
use Rattle.std.proofs.lemmas.Option.{none-some}
use Rattle.pc_cert.specs.declared.line.CertLine.{CertLine}
use Rattle.pc_cert.specs.declared.place.Place.{Place}
use Rattle.pc_text.specs.Fields.{◌>>=◌, run_len, Lacks}
use Rattle.pc_cert.specs.Lines.{spelling, IsWritable}
use Rattle.pc_cert.specs.inside.Reading.{line_of}
use Rattle.pc_cert.specs.Grammar.{next}
use Rattle.pc_cert.specs.Text.{text_of}
use Rattle.pc_text.proofs.FieldLemmas.{bind_some}
use Rattle.pc_cert.proofs.LineLaws.{line_takes, line_again}
use Rattle.pc_cert.proofs.TextLaws.{text_of-append, LeadTo-more}
use Rattle.pc_cert.specs.Reader.{IsGoing, IsNotAllowed, IsStopped}
use Rattle.pc_cert.specs.inside.Reader.{IsGoingOrStopped, ReadsAs, CertReading, HasReadLine, place_behind}
use Rattle.pc_cert.specs.inside.Fed.{left_in, used_of}
use Rattle.pc_cert.specs.inside.Known.{IsAgain}
use Rattle.pc_cert.proofs.Passing.{PassesLine}
use Rattle.pc_cert.specs.declared.reader.Malformed.{Malformed}

-- the line in these bytes, if it is allowed in this place, and the place after it
abbrev pub arrived : Place → List ℕ → Option (CertLine × Place)
arrived place bytes = line_of bytes >>= (λ line. next place line >>= (λ behind. Some (line, behind)))

-- ---- a piece and the first end of a line in it

-- the bytes before the first `stop` do not have it
Lacks-run : (stop k : ℕ) (bytes : List ℕ) → k ≤ run_len stop bytes → Lacks stop (take k bytes)
Lacks-run stop zero bytes h = tt
Lacks-run stop (suc k) [] h = tt
Lacks-run stop (suc k) (b ∷ bs) h = elim (eqb_tells b stop) [
  | inl is ↦ absurd (omega (arith, rw (is.0) at h))
  | inr other ↦ (other.1, Lacks-run stop k bs (omega (arith, rw (other.0) at h)))
]

-- the bytes up to the first `stop`, that, and the bytes after it
run_parts : (stop : ℕ) (bytes : List ℕ) → run_len stop bytes < length bytes → take (run_len stop bytes) bytes ++ stop ∷ drop (suc (run_len stop bytes)) bytes ≡ bytes
run_parts stop [] h = absurd (omega arith)
run_parts stop (b ∷ bs) h = elim (eqb_tells b stop) [
  | inl is ↦ rw (is.0, is.1) refl
  | inr other ↦ rw (other.0) (ap (λ rest. b ∷ rest) (run_parts stop bs (omega (arith, rw (other.0) at h))))
]

run_taken : (stop : ℕ) (bytes : List ℕ) → run_len stop bytes < length bytes → take (suc (run_len stop bytes)) bytes ≡ take (run_len stop bytes) bytes ++ stop ∷ []
run_taken stop [] h = absurd (omega arith)
run_taken stop (b ∷ bs) h = elim (eqb_tells b stop) [
  | inl is ↦ rw (is.0, is.1) refl
  | inr other ↦ rw (other.0) (ap (λ rest. b ∷ rest) (run_taken stop bs (omega (arith, rw (other.0) at h))))
]

Lacks-append : (byte : ℕ) (xs ys : List ℕ) → Lacks byte xs → Lacks byte ys → Lacks byte (xs ++ ys)
Lacks-append byte [] ys p q = q
Lacks-append byte (x ∷ xs) ys p q = (p.0, Lacks-append byte xs ys (p.1) q)

-- ---- the four ways of a piece

-- a reader without a malformed line continues
pub going : {malformed : Option Malformed} {place : Place} {number : ℕ} {held : List ℕ} {lines : List CertLine} {text : List ℕ} →
    malformed ≡ None → IsGoingOrStopped malformed place number held lines text → IsGoing place number held lines text
going {malformed} {place} {number} {held} {lines} {text} none h = subst (λ m. IsGoingOrStopped m place number held lines text) none h

behind : (text : List ℕ) (lines : List CertLine) (held piece : List ℕ) → text ≡ text_of lines ++ held → text ++ piece ≡ text_of lines ++ (held ++ piece)
behind text lines held piece whole = ap (λ t. t ++ piece) whole ∙ append_assoc (text_of lines) held piece

-- no line ends in the piece
pub holds : {place : Place} {number : ℕ} {held : List ℕ} {lines : List CertLine} {text : List ℕ} (piece : List ℕ) (end : ℕ) →
    IsGoing place number held lines text → end ≡ run_len 10 piece → end ≡ length piece → length held + length piece < 192 →
    IsGoing place number (held ++ piece) lines (text ++ take end piece)
holds {held = held} {lines = lines} {text = text} piece end h ends whole few = record {
  led = h.led;
  count = h.count;
  whole = ap (λ t. text ++ t) (take_all end piece (omega arith)) ∙ behind text lines held piece h.whole;
  no_end = Lacks-append 10 held piece h.no_end (subst (λ t. Lacks 10 t) (take_all (length piece) piece (omega arith)) (Lacks-run 10 (length piece) piece (omega arith)));
  short = omega (arith, few, length-append held piece);
}

-- too many bytes come before a line ends
pub too_long : {place : Place} {number : ℕ} {held : List ℕ} {lines : List CertLine} {text : List ℕ} (malformed : Malformed) (piece : List ℕ)
    (end : ℕ) → IsGoing place number held lines text → end ≡ run_len 10 piece → 192 - length held ≤ end → end ≤ length piece →
    malformed.line ≡ number + 1 → IsStopped malformed lines (text ++ piece)
too_long {place} {number} {held} {lines} {text} malformed piece end h ends far within line = record {
  place = place;
  led = h.led;
  number = omega (arith, line, h.count);
  bad = held ++ take (192 - length held) piece;
  more = drop (192 - length held) piece;
  whole =
      behind text lines held piece h.whole
      ∙ ap (λ t. text_of lines ++ t) (ap (λ t. held ++ t) (sym (take-append-drop (192 - length held) piece))
      ∙ sym (append_assoc held (take (192 - length held) piece) (drop (192 - length held) piece)));
  why = inr (
    omega (arith, h.short, length-append held (take (192 - length held) piece), length-take (192 - length held) piece),
    Lacks-append 10 held (take (192 - length held) piece) h.no_end (Lacks-run 10 (192 - length held) piece (omega arith)),
  );
}

not_allowed : (place : Place) (bytes : List ℕ) → arrived place bytes ≡ None → IsNotAllowed place bytes
not_allowed place bytes none line behind fits is goes =
    let read : line_of bytes ≡ Some line = ap line_of is ∙ line_again line fits in
    let found : arrived place bytes ≡ Some (line, behind) = ap (λ found. found >>= (λ l. next place l >>= (λ b. Some (l, b)))) read ∙ ap (λ found. found >>= (λ b. Some (line, b))) goes in
    none-some (line, behind) (sym none ∙ found)

-- the line that ends in the piece is not allowed where it is
refused : {place : Place} {number : ℕ} {held : List ℕ} {lines : List CertLine} {text : List ℕ} (malformed : Malformed) (piece : List ℕ) →
    IsGoing place number held lines text → run_len 10 piece < length piece → arrived place (held ++ take (run_len 10 piece) piece) ≡ None →
    malformed.line ≡ number + 1 → IsStopped malformed lines (text ++ piece)
refused {place} {number} {held} {lines} {text} malformed piece h ends none line =
    let front = take (run_len 10 piece) piece in
    let rest = drop (suc (run_len 10 piece)) piece in
    record {
      place = place;
      led = h.led;
      number = omega (arith, line, h.count);
      bad = (held ++ front) ++ 10 ∷ [];
      more = rest;
      whole =
          behind text lines held piece h.whole
          ∙ ap (λ t. text_of lines ++ t) (
          ap (λ t. held ++ t) (sym (run_parts 10 piece ends))
          ∙ sym (append_assoc held front (10 ∷ rest))
          ∙ sym (append_assoc (held ++ front) (10 ∷ []) rest));
      why = inl (held ++ front, Lacks-append 10 held front h.no_end (Lacks-run 10 (run_len 10 piece) piece (omega arith)), refl, not_allowed place (held ++ front) none);
    }

-- the line that ends in the piece is allowed where it is
accepted : {place : Place} {number : ℕ} {held : List ℕ} {lines : List CertLine} {text : List ℕ} (piece : List ℕ) (line : CertLine)
    (after : Place) → IsGoing place number held lines text → run_len 10 piece < length piece →
    arrived place (held ++ take (run_len 10 piece) piece) ≡ Some (line, after) →
    IsGoing after (number + 1) [] (lines ++ line ∷ []) (text ++ take (run_len 10 piece + 1) piece)
accepted {place} {number} {held} {lines} {text} piece line after h ends found =
    let front = take (run_len 10 piece) piece in
    let read = bind_some (line_of (held ++ front)) (λ l. next place l >>= (λ b. Some (l, b))) (line, after) found in
    let goes = bind_some (next place (read.0)) (λ b. Some (read.0, b)) (line, after) (read.2) in
    let same : (read.0, goes.0) ≡ (line, after) = cc in
    let line_is : read.0 ≡ line = ap (λ (p : CertLine × Place). p.0) same in
    let after_is : goes.0 ≡ after = ap (λ (p : CertLine × Place). p.1) same in
    let spelled = line_takes (held ++ front) (read.0) (read.1) in
    let fits : IsWritable line = subst (λ l. IsWritable l) line_is (spelled.1) in
    let is : held ++ front ≡ spelling line = spelled.0 ∙ ap spelling line_is in
    let steps : next place line ≡ Some after = ap (λ l. next place l) (sym line_is) ∙ goes.1 ∙ ap Some after_is in
    record {
      led = LeadTo-more line h.led fits steps;
      count = omega (arith, h.count, length-append lines (line ∷ []));
      whole =
          ap (λ n. text ++ take n piece) (add-one (run_len 10 piece))
          ∙ ap (λ t. text ++ t) (run_taken 10 piece ends)
          ∙ behind text lines held (front ++ 10 ∷ []) h.whole
          ∙ ap (λ t. text_of lines ++ t) (sym (append_assoc held front (10 ∷ [])) ∙ ap (λ t. t ++ 10 ∷ []) is)
          ∙ sym (text_of-append lines (line ∷ []))
          ∙ sym (append-nil (text_of (lines ++ line ∷ [])));
      no_end = tt;
      short = omega arith;
    }

-- a line with the place after it
abbrev arrival : Place → Option CertLine → Option (CertLine × Place)
arrival place line = line >>= (λ l. next place l >>= (λ b. Some (l, b)))

no_arrival : (place : Place) (line : Option CertLine) → place_behind place line ≡ None → arrival place line ≡ None
no_arrival place None none = refl
no_arrival place (Some line) none = ap (λ found. found >>= (λ b. Some (line, b))) none

-- the result of a line that ends in the piece
pub passed : (old new : CertReading) (held : List ℕ) (line : Option CertLine) (piece : List ℕ) (used : ℕ) (result : Result ℕ Malformed) →
    old.malformed ≡ None → used ≡ run_len 10 piece + 1 → run_len 10 piece < length piece →
    line_of (old.held ++ take (run_len 10 piece) piece) ≡ line → HasReadLine line used (record old { held = held }) new result →
    (lines : List CertLine) (text : List ℕ) → ReadsAs old lines text →
    ReadsAs new (lines ++ left_in line result) (text ++ used_of result piece)
passed old new held line piece used (Ok count) none ends less read p lines text h =
    let found : arrived old.place (old.held ++ take (run_len 10 piece) piece) ≡ Some (p.taken, new.place) =
    ap (arrival old.place) (read ∙ p.there) ∙ ap (λ found. found >>= (λ b. Some (p.taken, b))) p.goes in
    let gone = accepted piece p.taken new.place (going none h) less found in
    subst (λ (r : CertReading). ReadsAs r (lines ++ option_to_list line) (text ++ take count piece)) (sym p.moved)
    (subst (λ m. IsGoingOrStopped m new.place (old.lines + 1) [] (lines ++ option_to_list line) (text ++ take count piece)) (sym none)
    (subst (λ l. IsGoing new.place (old.lines + 1) [] (lines ++ option_to_list l) (text ++ take count piece)) (sym p.there)
    (subst (λ n. IsGoing new.place (old.lines + 1) [] (lines ++ p.taken ∷ []) (text ++ take n piece)) (sym (p.used_is ∙ ends)) gone)))
passed old new held line piece used (Err malformed) none ends less read p lines text h =
    let found : arrived old.place (old.held ++ take (run_len 10 piece) piece) ≡ None =
    ap (arrival old.place) read ∙ no_arrival old.place line p.none in
    subst (λ (r : CertReading). ReadsAs r (lines ++ []) (text ++ piece)) (sym p.kept)
    (subst (λ ls. IsStopped malformed ls (text ++ piece)) (sym (append-nil lines)) (refused malformed piece (going none h) less found p.number))

-- what is not some is none
pub none_from : (malformed : Option Malformed) → ((m : Malformed) → malformed ≡ Some m → ⊥) → malformed ≡ None
none_from None h = refl
none_from (Some m) h = absurd (h m refl)

-- a line that is the first of the piece was passed
pub passes_line : (line : CertLine) (piece : List ℕ) (used : ℕ) (old new : CertReading) → old.malformed ≡ None → old.held ≡ [] → IsAgain (Some line) piece used → next old.place line ≡ Some new.place
    → new ≡ record old { place = new.place; lines = old.lines + 1 } → PassesLine line piece used old new
passes_line line piece used old new none empty is goes moved =
    let moved_to : List ℕ → CertReading = λ held. record { place = new.place; lines = old.lines + 1; held = held; malformed = old.malformed } in
    record {
      some = omega (arith, is.ends);
      within = is.within;
      goes = goes;
      going = ap (λ (r : CertReading). r.malformed) moved ∙ none;
      nothing = ap (λ (r : CertReading). r.held) moved ∙ empty;
      counted = ap (λ (r : CertReading). r.lines) moved;
      stands = passed old new old.held (Some line) piece used (Ok used) none is.ends (omega (arith, is.ends, is.within))
          (ap (λ held. line_of (held ++ take (run_len 10 piece) piece)) empty ∙ is.read)
          (record { used_is = refl; taken = line; there = refl; goes = goes; moved = moved ∙ ap moved_to empty });
    }
