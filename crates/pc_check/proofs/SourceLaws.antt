-- A text is pulled from a source and used piece by piece.
use Rattle.std.proofs.Common.{◌≡◌, ℕ, ◌+◌, ◌<◌, ◌≤◌, List, [], ◌∷◌, ◌++◌, length, Option, Some, None, refl, sym, ap, subst, ◌∙◌, arith, append_assoc, append-nil, length-append}
use Rattle.std.specs.Prelude.{IfSome}
use Rattle.std.specs.Io.KnownBytes.{Consumes, Keeps, IsAtEnd}
use Rattle.std.proofs.KnownBytes.{Consumes-trans, Consumes-whole}
use Rattle.std.proofs.lemmas.List.{nil_from_length}
use Rattle.pc_edges.specs.Faults.{Rose}
use Rattle.pc_edges.specs.Pulls.{CameIn, TakesPulls}
use Rattle.pc_edges.proofs.PullLaws.{TakesPulls-then, TakesPulls-more, CameIn-consumes, CameIn-more}
use Rattle.pc_check.specs.declared.checker.Fail.{Fail}
use Rattle.pc_check.specs.declared.checker.Verdict.{Verdict}
use Rattle.pc_check.specs.Texts.{IsFailing, Finds}
use Rattle.pc_check.specs.declared.checker.Verdict.TheVariants.{Yes, No}
use Rattle.pc_check.specs.inside.Certified.{OnYes}
use Rattle.pc_check.specs.inside.Auditing.{Auditing, HasRead, IsOngoingAudit, audit_bytes_left}
use Rattle.pc_check.specs.Stops.{HasNoFailure, IsSettled, IsUnsettled}
use Rattle.pc_check.proofs.AuditLaws.{reading, checking}
use Rattle.pc_check.proofs.PieceLaws.{CameIn-pulls}

-- ---- bytes

-- what holds of the bytes that were taken, whatever follows them
with_anything : (left left_after : Option (List ℕ)) (bytes : List ℕ) (P : List ℕ → Type 0) → Consumes left left_after bytes → ((more : List ℕ) → P (bytes ++ more)) → IfSome left P
with_anything None left_after bytes P taken holds = tt
with_anything (Some all) None bytes P taken holds = absurd taken
with_anything (Some all) (Some rest) bytes P taken holds = subst P (sym taken) (holds rest)

-- ---- verdicts

-- what holds anyway holds on a yes
pub on_any : (verdict : Verdict) (P : Type 0) → P → OnYes verdict P
on_any (Yes segments) P is = is
on_any (No line reason) P is = tt

-- ---- between two pulls

-- nothing fails in what was read
no_failure : (audit : Auditing) (text : List ℕ) → IsOngoingAudit audit → HasRead text audit → HasNoFailure audit.checker.net text
no_failure audit text going h =
    let read = reading audit.reader h.lines text going.well_formed h.read in
    let checked = checking audit.checker h.lines going.no_fail h.checked in
    record {
      place = audit.reader.place;
      lines = h.lines;
      rest = audit.reader.held;
      led = read.led;
      none = checked.none;
      whole = read.whole;
      no_end = read.no_end;
      short = going.short;
    }

-- the bytes that were pulled are used, and each pull left fewer bytes to come
pub record IsPulling {X : Type 0} (left : X → Option (List ℕ)) (faults : X → ℕ) (pulls : X → Option ℕ) (old mid : X) (before now : Auditing) : Type 0 where
  pub pieces : List (List ℕ)
  pub text : List ℕ
  pub came : CameIn left faults pulls pieces text old mid
  pub no_fault : faults mid ≡ faults old
  pub read : HasRead text now
  pub going : IsOngoingAudit now
  pub net : now.checker.net ≡ before.checker.net
  pub fewer : length pieces + audit_bytes_left now ≤ audit_bytes_left before

-- nothing is pulled yet
pub none_pulled : {X : Type 0} (left : X → Option (List ℕ)) (faults : X → ℕ) (pulls : X → Option ℕ) (old : X) (audit : Auditing) → HasRead [] audit → IsOngoingAudit audit
    → IsPulling left faults pulls old old audit audit
none_pulled left faults pulls old audit read going = record {
  pieces = [];
  text = [];
  came = (refl, refl);
  no_fault = refl;
  read = read;
  going = going;
  net = refl;
  fewer = omega arith;
}

-- the source as it was before the last pull, and as it is
module _ {X : Type 0} (left : X → Option (List ℕ)) (faults : X → ℕ) (pulls : X → Option ℕ) (old mid new : X) {before now : Auditing}
    (h : IsPulling left faults pulls old mid before now) where
  -- the bytes that were pulled are taken of what was left
  taken : Consumes (left old) (left mid) h.text
  taken = CameIn-consumes left faults pulls h.pieces h.text old mid h.came

  -- nothing fails in the bytes that were pulled
  none_fails : HasNoFailure before.checker.net h.text
  none_fails = subst (λ n. HasNoFailure n h.text) h.net (no_failure now h.text h.going h.read)

  -- one more piece is pulled and used
  pub piece_pulled : (after : Auditing) (piece : List ℕ) → Consumes (left mid) (left new) piece → faults new ≡ faults mid → TakesPulls 1 (pulls mid) (pulls new) → 0 < length piece
      → IsOngoingAudit after → after.checker.net ≡ now.checker.net → ((text : List ℕ) → HasRead text now → HasRead (text ++ piece) after) →
      (0 < length piece → audit_bytes_left after < audit_bytes_left now) → IsPulling left faults pulls old new before after
  piece_pulled after piece pulled quiet once some going net goes_on less = record {
    pieces = h.pieces ++ piece ∷ [];
    text = h.text ++ piece;
    came = CameIn-more left faults pulls h.pieces h.text piece old mid new h.came some pulled quiet once;
    no_fault = quiet ∙ h.no_fault;
    read = goes_on h.text h.read;
    going = going;
    net = net ∙ h.net;
    fewer = omega (arith, h.fewer, less some, length-append h.pieces (piece ∷ []));
  }

  -- the pulls so far and one more
  pub pulls_and_one : TakesPulls 1 (pulls mid) (pulls new) → TakesPulls (audit_bytes_left before + 1) (pulls old) (pulls new)
  pulls_and_one once =
      TakesPulls-more (length h.pieces + 1) (audit_bytes_left before + 1) (pulls old) (pulls new) (omega (arith, h.fewer))
      (TakesPulls-then (length h.pieces) 1 (pulls old) (pulls mid) (pulls new) (CameIn-pulls left faults pulls h.pieces h.text old mid h.came) once)

  -- the source is at its end, and the text is found to be this
  pub found_at_end : (verdict : Verdict) (piece : List ℕ) → Consumes (left mid) (left new) piece →
      length piece ≡ 0 → IsAtEnd (left new) → ((text : List ℕ) → HasRead text now → Finds now.checker.net text verdict) →
      IfSome (left old) (λ text. Finds before.checker.net text verdict)
  found_at_end verdict piece pulled none end finds =
      let all = Consumes-trans (left old) (left mid) (left new) h.text piece taken pulled in
      let same : h.text ++ piece ≡ h.text = ap (λ p. h.text ++ p) (nil_from_length piece none) ∙ append-nil h.text in
      Consumes-whole (left old) (left new) (h.text ++ piece) (λ text. Finds before.checker.net text verdict) all end
      (subst (λ t. Finds before.checker.net t verdict) (sym same) (subst (λ n. Finds n h.text verdict) h.net (finds h.text h.read)))

  -- the text fails in a piece that was pulled
  pub fails_in_piece : (fail : Fail) (piece : List ℕ) → Consumes (left mid) (left new) piece →
      ((text more : List ℕ) → HasRead text now → IsFailing now.checker.net (text ++ (piece ++ more)) fail) →
      IfSome (left old) (λ text. IsFailing before.checker.net text fail)
  fails_in_piece fail piece pulled fails =
      with_anything (left old) (left new) (h.text ++ piece) (λ text. IsFailing before.checker.net text fail)
      (Consumes-trans (left old) (left mid) (left new) h.text piece taken pulled)
      (λ more. subst (λ n. IsFailing n ((h.text ++ piece) ++ more) fail) h.net (subst (λ t. IsFailing now.checker.net t fail) (sym (append_assoc h.text piece more)) (fails h.text more h.read)))

  -- a pull failed
  pub unsettled : Rose (faults mid) (faults new) → Keeps (left mid) (left new) → TakesPulls 1 (pulls mid) (pulls new) → IsUnsettled before.checker.net left faults pulls old new
  unsettled failed kept once = record {
    before = mid;
    pieces = h.pieces;
    bytes = h.text;
    came = h.came;
    none = none_fails;
    failed = failed;
    kept = kept;
    once = once;
  }

  -- the verdict on the bytes that were taken
  settled : (piece : List ℕ) → Consumes (left mid) (left new) piece → TakesPulls 1 (pulls mid) (pulls new) → (verdict : Verdict) (room : ℕ) → length piece ≤ room →
      Finds before.checker.net (h.text ++ piece) verdict → IsSettled before.checker.net verdict room left faults pulls old new
  settled piece pulled once verdict room fits found = record {
    before = mid;
    pieces = h.pieces;
    front = h.text;
    last = piece;
    came = h.came;
    none = none_fails;
    pulled = pulled;
    short = fits;
    once = once;
    found = found;
  }

  -- of a source that is at its end
  pub settled_at_end : (piece : List ℕ) → Consumes (left mid) (left new) piece → TakesPulls 1 (pulls mid) (pulls new) → (verdict : Verdict) (room : ℕ) → length piece ≡ 0 →
      ((text : List ℕ) → HasRead text now → Finds now.checker.net text verdict) →
      IsSettled before.checker.net verdict room left faults pulls old new
  settled_at_end piece pulled once verdict room none finds =
      let same : h.text ++ piece ≡ h.text = ap (λ p. h.text ++ p) (nil_from_length piece none) ∙ append-nil h.text in
      settled piece pulled once verdict room (omega (arith, none))
      (subst (λ n. Finds n (h.text ++ piece) verdict) h.net (subst (λ t. Finds now.checker.net t verdict) (sym same) (finds h.text h.read)))

  -- the verdict on a source in which a line fails
  pub settled_in_piece : (piece : List ℕ) → Consumes (left mid) (left new) piece → TakesPulls 1 (pulls mid) (pulls new) → (fail : Fail) (room : ℕ) → length piece ≤ room →
      ((text more : List ℕ) → HasRead text now → IsFailing now.checker.net (text ++ (piece ++ more)) fail) →
      IsSettled before.checker.net (No fail.line fail.reason) room left faults pulls old new
  settled_in_piece piece pulled once fail room fits fails =
      settled piece pulled once (No fail.line fail.reason) room fits
      (subst (λ n. IsFailing n (h.text ++ piece) fail) h.net (subst (λ p. IsFailing now.checker.net (h.text ++ p) fail) (append-nil piece) (fails h.text [] h.read)))
