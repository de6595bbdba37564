-- The state of a checker after one more line.
use Rattle.std.proofs.Common.{◌≡◌, ℕ, ◌+◌, true, false, List, [], ◌∷◌, ◌++◌, length, Option, Some, None, sym, ap, subst, ◌∙◌, arith, length-append}
use Rattle.std.proofs.lemmas.Bool.{eqb-true, and_parts}
use Rattle.std.specs.Prelude.{IfNone, IsSome}
use Rattle.pc_text.specs.Fields.{◌>>=◌}
use Rattle.pc_cert.specs.Grammar.{next}
use Rattle.pc_cert.specs.Text.{ran}
use Rattle.pc_cert.proofs.TextLaws.{ran-append}
use Rattle.pc_cert.specs.declared.line.CertLine.{CertLine}
use Rattle.pc_cert.specs.declared.line.CertLine.TheVariants.{Head, Normal, Step, Crash, Segment, Event, Act, Close, End}
use Rattle.pc_cert.specs.declared.place.Place.{Place}
use Rattle.pc_cert.specs.declared.place.Place.TheVariants.{Start}
use Rattle.pc_crash.specs.Priced.{PricedNetwork, knees_in}
use Rattle.pc_check.specs.declared.checker.Fail.{Fail}
use Rattle.pc_check.specs.declared.kept.Kept.{Kept}
use Rattle.pc_check.specs.Draft.{Draft, empty_draft, with_line, draft_of}
use Rattle.pc_check.specs.Conditions.{conditions}
use Rattle.pc_check.specs.Failures.{first_failing, reason_at, or_later, failure_of}
use Rattle.pc_check.specs.inside.Kept.{known_by}
use Rattle.pc_check.specs.inside.Bounds.{IsBounded}
use Rattle.pc_check.specs.inside.Advances.{Advances, moved_on}
use Rattle.pc_check.specs.inside.Checking.{IsKept, HasCheckedLines, HasCheckedOrFailed}
use Rattle.pc_check.specs.inside.Safe.{IsSafe}
use Rattle.pc_check.proofs.ReasonLaws.{holds_first}
use Rattle.pc_check.proofs.BoundLaws.{Passes, event_first, all_come, lines_kept}
use Rattle.pc_check.proofs.FailureLaws.{draft-append, failure_of-more, failure_of-next}
use Rattle.pc_check.proofs.SaidLaws.{reason_told, IsReady, kept_more}

-- the draft of the lines fits the line
ready : (net : PricedNetwork) (draft : Draft) (line : CertLine) (kept : Kept) (behind : Place) → IsBounded net kept → IsKept net draft kept → Passes net line kept behind → IsReady net line draft
ready net draft (Event code time moves) kept behind h k p = sym k.tally.acts ∙ event_first net kept.place code time moves behind kept h.place p.goes
ready net draft (Act code duration flows) kept behind h k p =
    eqb-true _ _ ((and_parts _ _ ((holds_first _ _ _ p.passes).0)).1) ∙ ap (λ a. (knees_in net).count a + 1) k.tally.acts
ready net draft (Head version project events activities) kept behind h k p = tt
ready net draft Normal kept behind h k p = tt
ready net draft (Step code) kept behind h k p = tt
ready net draft Crash kept behind h k p = tt
ready net draft (Segment upper lower cost slope) kept behind h k p = tt
ready net draft Close kept behind h k p = tt
ready net draft End kept behind h k p = tt

kept_moved : (net : PricedNetwork) (draft : Draft) (between : Kept) (place : Place) → IsKept net draft between → IsKept net draft (moved_on between place)
kept_moved net draft between place k = record { normal = k.normal; crash = k.crash; crash_walk_started = k.crash_walk_started; segments = k.segments; tally = k.tally }

ran_more : (line : CertLine) (place behind : Place) → next place line ≡ Some behind → ran place (line ∷ []) ≡ Some behind
ran_more line place behind goes = ap (λ found. found >>= (λ b. ran b [])) goes

-- the reason for which a line fails follows from the state
reason_is : (net : PricedNetwork) (lines : List CertLine) (line : CertLine) (kept : Kept) (behind : Place) → IsSafe net kept.tally →
    IsBounded net kept → next kept.place line ≡ Some behind → IsKept net (draft_of lines) kept →
    reason_at net (draft_of lines) line ≡ first_failing (conditions net (known_by kept) line)
reason_is net lines line kept behind safe bounded goes k =
    sym (reason_told net (draft_of lines) line kept safe (λ is. all_come net kept.place behind kept bounded.place (subst (λ l. next kept.place l ≡ Some behind) is goes)) k)

-- a line that does not fail
pub goes_on : {net : PricedNetwork} {lines : List CertLine} {old new : Kept} (line : CertLine) → IsSafe net old.tally → IsBounded net old →
    None ≡ first_failing (conditions net (known_by old) line) → Advances net line old new → HasCheckedLines net old lines →
    HasCheckedLines net new (lines ++ line ∷ [])
goes_on {net} {lines} {old} {new} line safe bounded reason a h =
    let passes : Passes net line old new.place = record { goes = a.goes; passes = sym reason } in
    let before = kept_more net (draft_of lines) line old a.between (ready net (draft_of lines) line old new.place bounded h.keeps passes) h.keeps a.added in
    let kept = subst (λ k. IsKept net (with_line (draft_of lines) line) k) (sym a.moved) (kept_moved net (with_line (draft_of lines) line) a.between new.place before) in
    record {
      order = ran-append Start lines (line ∷ []) ∙ ap (λ found. found >>= (λ b. ran b (line ∷ []))) h.order ∙ ran_more line old.place new.place a.goes;
      count = omega (arith, ap (λ k. k.lines) a.moved, lines_kept net line old a.between a.added, h.count, length-append lines (line ∷ []));
      none = failure_of-next net lines line h.none ∙ ap (λ r. or_later (1 + length lines) r None) (reason_is net lines line old new.place safe bounded a.goes h.keeps ∙ sym reason);
      keeps = subst (λ d. IsKept net d new) (sym (draft-append empty_draft lines (line ∷ []))) kept;
    }

-- a line that fails
pub fails : {net : PricedNetwork} {lines : List CertLine} {kept : Kept} (line : CertLine) (behind : Place) (reason number : ℕ) →
    IsSafe net kept.tally → IsBounded net kept → next kept.place line ≡ Some behind →
    Some reason ≡ first_failing (conditions net (known_by kept) line) → number ≡ kept.lines + 1 → HasCheckedLines net kept lines →
    failure_of net (lines ++ line ∷ []) ≡ Some (record { line = number; reason = reason })
fails {net} {lines} {kept} line behind reason number safe bounded goes found is h =
    failure_of-next net lines line h.none
    ∙ ap (λ r. or_later (1 + length lines) r None) (reason_is net lines line kept behind safe bounded goes h.keeps ∙ sym found)
    ∙ ap (λ n. Some (record { line = n; reason = reason })) (omega (arith, is, h.count))

-- a failure that is stored
pub stays : (net : PricedNetwork) (kept : Kept) (found : Option Fail) (lines : List CertLine) (line : CertLine) (fail : Fail) →
    found ≡ Some fail → HasCheckedOrFailed net kept found lines → HasCheckedOrFailed net kept found (lines ++ line ∷ [])
stays net kept found lines line fail is h =
    subst (λ f. HasCheckedOrFailed net kept f (lines ++ line ∷ [])) (sym is) (failure_of-more net lines (line ∷ []) fail (subst (λ f. HasCheckedOrFailed net kept f lines) is h))

-- if the line is not allowed, a failure is stored
pub stays_failed : (net : PricedNetwork) (kept : Kept) (found : Option Fail) (lines : List CertLine) (line : CertLine) →
    IfNone found (IsSome (next kept.place line)) → next kept.place line ≡ None → HasCheckedOrFailed net kept found lines → HasCheckedOrFailed net kept found (lines ++ line ∷ [])
stays_failed net kept None lines line allowed none h = absurd (let e : false ≡ true = subst (λ behind. IsSome behind) none allowed in cc)
stays_failed net kept (Some fail) lines line allowed none h = failure_of-more net lines (line ∷ []) fail h

-- none is stored
pub is_going : (net : PricedNetwork) (kept : Kept) (found : Option Fail) (lines : List CertLine) → found ≡ None → HasCheckedOrFailed net kept found lines → HasCheckedLines net kept lines
is_going net kept found lines none h = subst (λ f. HasCheckedOrFailed net kept f lines) none h

pub still_going : (net : PricedNetwork) (kept : Kept) (found : Option Fail) (lines : List CertLine) → found ≡ None → HasCheckedLines net kept lines → HasCheckedOrFailed net kept found lines
still_going net kept found lines none h = subst (λ f. HasCheckedOrFailed net kept f lines) (sym none) h

pub when_none : {P : Type 0} (found : Option Fail) → found ≡ None → IfNone found P → P
when_none None none h = h
when_none (Some f) none h = absurd cc
