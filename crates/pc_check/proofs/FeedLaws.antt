-- A piece is used line by line.
use Rattle.std.proofs.Common.{◌≡◌, ℕ, ◌<◌, ◌≤◌, List, [], ◌++◌, length, take, drop, refl, sym, ap, subst, ◌∙◌, arith, append_assoc, append-nil}
use Rattle.std.proofs.lemmas.List.{take-append-drop, nil_from_length}
use Rattle.pc_check.specs.declared.checker.Fail.{Fail}
use Rattle.pc_check.specs.Texts.{IsFailing}
use Rattle.pc_check.specs.inside.Auditing.{Auditing, HasRead, IsOngoingAudit, audit_bytes_left}

-- a front of the piece was used, and the rest is left
pub record IsFeeding (before now : Auditing) (piece rest : List ℕ) : Type 0 where
  pub front : List ℕ
  pub whole : piece ≡ front ++ rest
  pub going : IsOngoingAudit now
  pub net : now.checker.net ≡ before.checker.net
  pub goes_on : (text : List ℕ) → HasRead text before → HasRead (text ++ front) now
  pub read : (text : List ℕ) × HasRead text now
  pub less : 0 < length front → audit_bytes_left now < audit_bytes_left before
  pub not_more : audit_bytes_left now ≤ audit_bytes_left before

-- nothing is used yet
pub begun : (audit : Auditing) (piece : List ℕ) → IsOngoingAudit audit → ((text : List ℕ) × HasRead text audit) → IsFeeding audit audit piece piece
begun audit piece going read = record {
  front = [];
  whole = refl;
  going = going;
  net = refl;
  goes_on = λ text h. subst (λ t. HasRead t audit) (sym (append-nil text)) h;
  read = read;
  less = λ some. absurd (omega arith);
  not_more = omega arith;
}

-- one more line, or the rest, is used
pub more : {before now : Auditing} {piece rest : List ℕ} (new : Auditing) (used : ℕ) → IsFeeding before now piece rest → IsOngoingAudit new →
    new.checker.net ≡ now.checker.net → ((text : List ℕ) → HasRead text now → HasRead (text ++ take used rest) new) →
    audit_bytes_left new < audit_bytes_left now → IsFeeding before new piece (drop used rest)
more {before} {now} {piece} {rest} new used h going net goes_on less = record {
  front = h.front ++ take used rest;
  whole = h.whole ∙ ap (λ t. h.front ++ t) (sym (take-append-drop used rest)) ∙ sym (append_assoc h.front (take used rest) (drop used rest));
  going = going;
  net = net ∙ h.net;
  goes_on = λ text read. subst (λ t. HasRead t new) (append_assoc text h.front (take used rest)) (goes_on (text ++ h.front) (h.goes_on text read));
  read = (h.read.0 ++ take used rest, goes_on h.read.0 h.read.1);
  less = λ some. omega (arith, less, h.not_more);
  not_more = omega (arith, less, h.not_more);
}

-- a failure in the rest is one of the text
pub fails_in_rest : {before now : Auditing} {piece rest : List ℕ} (fail : Fail) → IsFeeding before now piece rest →
    ((text more : List ℕ) → HasRead text now → IsFailing now.checker.net (text ++ (rest ++ more)) fail) → (text more : List ℕ) →
    HasRead text before → IsFailing before.checker.net (text ++ (piece ++ more)) fail
fails_in_rest {before} {now} {piece} {rest} fail h fails text more read =
    let found = fails (text ++ h.front) more (h.goes_on text read) in
    let same : (text ++ h.front) ++ (rest ++ more) ≡ text ++ (piece ++ more) =
    append_assoc text h.front (rest ++ more) ∙ ap (λ t. text ++ t) (sym (append_assoc h.front rest more) ∙ ap (λ t. t ++ more) (sym h.whole)) in
    subst (λ n. IsFailing n (text ++ (piece ++ more)) fail) h.net (subst (λ t. IsFailing now.checker.net t fail) same found)

front_is_all : {before now : Auditing} {piece rest : List ℕ} (h : IsFeeding before now piece rest) → length rest ≡ 0 → h.front ≡ piece
front_is_all {piece = piece} {rest = rest} h none = sym (append-nil h.front) ∙ ap (λ t. h.front ++ t) (sym (nil_from_length rest none)) ∙ sym h.whole

-- all is used
pub ended : {before now : Auditing} {piece rest : List ℕ} → IsFeeding before now piece rest → length rest ≡ 0 → ((text : List ℕ) → HasRead text before → HasRead (text ++ piece) now)
ended {before} {now} {piece} {rest} h none text read = subst (λ t. HasRead (text ++ t) now) (front_is_all h none) (h.goes_on text read)

pub ended_less : {before now : Auditing} {piece rest : List ℕ} → IsFeeding before now piece rest → length rest ≡ 0 → 0 < length piece → audit_bytes_left now < audit_bytes_left before
ended_less {before} {now} {piece} {rest} h none some = h.less (omega (arith, ap length (front_is_all h none), some))
