-- What is read from a line has the line as its text, and a request is read from its text.
use Rattle.std.proofs.Common.{◌≡◌, ℕ, ltb, List, [], ◌++◌, length, take, drop, Option, Some, None, refl, sym, ap, subst, ◌∙◌}
use Rattle.std.proofs.lemmas.Bool.{ltb-false, le-ltb}
use Rattle.std.proofs.lemmas.List.{take-append-drop}
use Rattle.std.specs.Prelude.{codes, IfSome}
use Rattle.std.specs.Fmt.{decimal}
use Rattle.pc_project.specs.declared.activity.Estimates.{Estimates}
use Rattle.pc_whatif.specs.declared.edits.ask.Ask.{Ask}
use Rattle.pc_whatif.specs.declared.edits.ask.Ask.TheVariants as ask
use Rattle.pc_whatif.specs.declared.edits.ask.Change.{Change}
use Rattle.pc_whatif.specs.declared.edits.ask.Change.TheVariants.{Estimate, Normal, Crash, Slope}
use Rattle.pc_whatif.specs.declared.edits.ask.Trial.{Trial}
use Rattle.pc_whatif.specs.declared.edits.ask.TheConstants.{MAX_LINE}
use Rattle.pc_text.specs.Fields.{◌>>=◌, run_len, code_field, number_field, alone, spaced, IsCode}
use Rattle.pc_text.specs.declared.number.TheConstants.{DECK_DIGITS}
use Rattle.pc_whatif.specs.inside.edits.Lines.{ask_text, IsWritableAsk, Asks, HasAtMost13Digits}
use Rattle.pc_whatif.specs.edits.Reading.{edit_of, estimate_ask, amount_of, normal_ask, crash_ask, slope_ask, try_ask, ask_with, ask_of}
use Rattle.pc_text.proofs.SpellingLemmas.{IsSpelled, either, no_name, one_word}
use Rattle.pc_text.proofs.FieldLemmas.{bind_some, alone_takes, unless_takes, unless_again, nothing, space, code_field_takes, code_field_again, number_field_takes, number_field_again}
use Rattle.pc_text.proofs.NumberLemmas.{of_deck}

-- the word and the fields are those of the request, which can be written
abbrev IsAsk : List ℕ → List ℕ → Ask → Type 0
IsAsk word fields a = IsSpelled ask_text IsWritableAsk word fields a

-- ---- estimates

estimate_takes : (fields : List ℕ) (a : Ask) → estimate_ask fields ≡ Some a → IsAsk (codes "ESTIMATE") fields a
unfolding estimate_ask
estimate_takes fields a e =
    let made = λ (code : List ℕ) (opt likely pess : ℕ). edit_of code (Estimate (record { optimistic = opt; likely = likely; pessimistic = pess })) in
    let code = bind_some (code_field fields)
    (λ code. number_field DECK_DIGITS (code.1) >>=
    (λ opt. number_field DECK_DIGITS (opt.1) >>=
    (λ likely. number_field DECK_DIGITS (likely.1) >>= (λ pess. alone (pess.1) (made (code.0) (opt.0) (likely.0) (pess.0)))))) a e in
    let opt = bind_some (number_field DECK_DIGITS (code.0.1))
    (λ opt. number_field DECK_DIGITS (opt.1) >>=
    (λ likely. number_field DECK_DIGITS (likely.1) >>= (λ pess. alone (pess.1) (made (code.0.0) (opt.0) (likely.0) (pess.0))))) a (code.2) in
    let likely = bind_some (number_field DECK_DIGITS (opt.0.1))
    (λ likely. number_field DECK_DIGITS (likely.1) >>= (λ pess. alone (pess.1) (made (code.0.0) (opt.0.0) (likely.0) (pess.0)))) a (opt.2) in
    let pess = bind_some (number_field DECK_DIGITS (likely.0.1)) (λ pess. alone (pess.1) (made (code.0.0) (opt.0.0) (likely.0.0) (pess.0))) a (likely.2) in
    let end = alone_takes (pess.0.1) (made (code.0.0) (opt.0.0) (likely.0.0) (pess.0.0)) a (pess.2) in
    let code_is = code_field_takes fields (code.0) (code.1) in
    let opt_is = number_field_takes of_deck (code.0.1) (opt.0) (opt.1) in
    let likely_is = number_field_takes of_deck (opt.0.1) (likely.0) (likely.1) in
    let pess_is = number_field_takes of_deck (likely.0.1) (pess.0) (pess.1) in
    subst (λ l. IsAsk (codes "ESTIMATE") fields l) (end.1) (record {
      text = ap (λ x. codes "ESTIMATE" ++ x) (
          code_is.text ∙ ap (λ x. spaced (code.0.0) x) (
          opt_is.text ∙ ap (λ x. spaced (decimal (opt.0.0)) x) (
          likely_is.text ∙ ap (λ x. spaced (decimal (likely.0.0)) x) (
          pess_is.text ∙ ap (λ x. spaced (decimal (pess.0.0)) x) (end.0)))));
      fits = (code_is.code_is, (opt_is.small, likely_is.small, pess_is.small));
    })

estimate_again : (act : List ℕ) (new : Estimates) → IsWritableAsk (edit_of act (Estimate new)) →
    estimate_ask (spaced act (spaced (decimal new.optimistic) (spaced (decimal new.likely) (spaced (decimal new.pessimistic) [])))) ≡ Some (edit_of act (Estimate new))
unfolding estimate_ask
estimate_again act new h =
    rw (
      code_field_again act (spaced (decimal new.optimistic) (spaced (decimal new.likely) (spaced (decimal new.pessimistic) []))) (h.0) (space _),
      number_field_again of_deck new.optimistic (spaced (decimal new.likely) (spaced (decimal new.pessimistic) [])) (h.1.0) (space _),
      number_field_again of_deck new.likely (spaced (decimal new.pessimistic) []) (h.1.1) (space _),
      number_field_again of_deck new.pessimistic [] (h.1.2) nothing,
    ) refl

-- ---- one number of an activity

record TakesAmount (fields act : List ℕ) (n : ℕ) : Type 0 where
  text : fields ≡ spaced act (spaced (decimal n) [])
  code_is : IsCode act
  small : HasAtMost13Digits n

amount_takes : (fields : List ℕ) (x : List ℕ × ℕ) → amount_of fields ≡ Some x → TakesAmount fields (x.0) (x.1)
unfolding amount_of
amount_takes fields x e =
    let code = bind_some (code_field fields) (λ code. number_field DECK_DIGITS (code.1) >>= (λ n. alone (n.1) (code.0, n.0))) x e in
    let n = bind_some (number_field DECK_DIGITS (code.0.1)) (λ n. alone (n.1) (code.0.0, n.0)) x (code.2) in
    let end = alone_takes (n.0.1) (code.0.0, n.0.0) x (n.2) in
    let code_is = code_field_takes fields (code.0) (code.1) in
    let n_is = number_field_takes of_deck (code.0.1) (n.0) (n.1) in
    subst (λ (y : List ℕ × ℕ). TakesAmount fields (y.0) (y.1)) (end.1) (record {
      text = code_is.text ∙ ap (λ x. spaced (code.0.0) x) (n_is.text ∙ ap (λ x. spaced (decimal (n.0.0)) x) (end.0));
      code_is = code_is.code_is;
      small = n_is.small;
    })

amount_again : (act : List ℕ) (n : ℕ) → IsCode act → HasAtMost13Digits n → amount_of (spaced act (spaced (decimal n) [])) ≡ Some (act, n)
unfolding amount_of
amount_again act n code small =
    rw (code_field_again act (spaced (decimal n) []) code (space _), number_field_again of_deck n [] small nothing) refl

some_same : (x y : Ask) → Some x ≡ Some y → x ≡ y
some_same x y e = cc

normal_takes : (fields : List ℕ) (a : Ask) → normal_ask fields ≡ Some a → IsAsk (codes "NORMAL") fields a
unfolding normal_ask
normal_takes fields a e =
    let amount = bind_some (amount_of fields) (λ amount. Some (edit_of (amount.0) (Normal (amount.1)))) a e in
    let is = amount_takes fields (amount.0) (amount.1) in
    subst (λ l. IsAsk (codes "NORMAL") fields l) (some_same _ _ (amount.2)) (record { text = ap (λ x. codes "NORMAL" ++ x) is.text; fits = (is.code_is, is.small) })

crash_takes : (fields : List ℕ) (a : Ask) → crash_ask fields ≡ Some a → IsAsk (codes "CRASH") fields a
unfolding crash_ask
crash_takes fields a e =
    let amount = bind_some (amount_of fields) (λ amount. Some (edit_of (amount.0) (Crash (amount.1)))) a e in
    let is = amount_takes fields (amount.0) (amount.1) in
    subst (λ l. IsAsk (codes "CRASH") fields l) (some_same _ _ (amount.2)) (record { text = ap (λ x. codes "CRASH" ++ x) is.text; fits = (is.code_is, is.small) })

slope_takes : (fields : List ℕ) (a : Ask) → slope_ask fields ≡ Some a → IsAsk (codes "SLOPE") fields a
unfolding slope_ask
slope_takes fields a e =
    let amount = bind_some (amount_of fields) (λ amount. Some (edit_of (amount.0) (Slope (amount.1)))) a e in
    let is = amount_takes fields (amount.0) (amount.1) in
    subst (λ l. IsAsk (codes "SLOPE") fields l) (some_same _ _ (amount.2)) (record { text = ap (λ x. codes "SLOPE" ++ x) is.text; fits = (is.code_is, is.small) })

normal_again : (act : List ℕ) (n : ℕ) → IsCode act → HasAtMost13Digits n → normal_ask (spaced act (spaced (decimal n) [])) ≡ Some (edit_of act (Normal n))
unfolding normal_ask
normal_again act n code small = rw (amount_again act n code small) refl

crash_again : (act : List ℕ) (n : ℕ) → IsCode act → HasAtMost13Digits n → crash_ask (spaced act (spaced (decimal n) [])) ≡ Some (edit_of act (Crash n))
unfolding crash_ask
crash_again act n code small = rw (amount_again act n code small) refl

slope_again : (act : List ℕ) (n : ℕ) → IsCode act → HasAtMost13Digits n → slope_ask (spaced act (spaced (decimal n) [])) ≡ Some (edit_of act (Slope n))
unfolding slope_ask
slope_again act n code small = rw (amount_again act n code small) refl

-- ---- a trial

try_takes : (fields : List ℕ) (a : Ask) → try_ask fields ≡ Some a → IsAsk (codes "TRY") fields a
unfolding try_ask
try_takes fields a e =
    let made = λ (code : List ℕ) (normal crash slope limit : ℕ). ask.Try (record { act = code; normal = normal; crash = crash; slope = slope; length = limit }) in
    let code = bind_some (code_field fields)
    (λ code. number_field DECK_DIGITS (code.1) >>=
    (λ normal. number_field DECK_DIGITS (normal.1) >>=
    (λ crash. number_field DECK_DIGITS (crash.1) >>=
    (λ slope. number_field DECK_DIGITS (slope.1) >>= (λ limit. alone (limit.1) (made (code.0) (normal.0) (crash.0) (slope.0) (limit.0))))))) a e in
    let normal = bind_some (number_field DECK_DIGITS (code.0.1))
    (λ normal. number_field DECK_DIGITS (normal.1) >>=
    (λ crash. number_field DECK_DIGITS (crash.1) >>=
    (λ slope. number_field DECK_DIGITS (slope.1) >>= (λ limit. alone (limit.1) (made (code.0.0) (normal.0) (crash.0) (slope.0) (limit.0)))))) a
    (code.2) in
    let crash = bind_some (number_field DECK_DIGITS (normal.0.1))
    (λ crash. number_field DECK_DIGITS (crash.1) >>=
    (λ slope. number_field DECK_DIGITS (slope.1) >>= (λ limit. alone (limit.1) (made (code.0.0) (normal.0.0) (crash.0) (slope.0) (limit.0))))) a
    (normal.2) in
    let slope = bind_some (number_field DECK_DIGITS (crash.0.1))
    (λ slope. number_field DECK_DIGITS (slope.1) >>= (λ limit. alone (limit.1) (made (code.0.0) (normal.0.0) (crash.0.0) (slope.0) (limit.0)))) a (crash.2) in
    let limit = bind_some (number_field DECK_DIGITS (slope.0.1)) (λ limit. alone (limit.1) (made (code.0.0) (normal.0.0) (crash.0.0) (slope.0.0) (limit.0))) a (slope.2) in
    let end = alone_takes (limit.0.1) (made (code.0.0) (normal.0.0) (crash.0.0) (slope.0.0) (limit.0.0)) a (limit.2) in
    let code_is = code_field_takes fields (code.0) (code.1) in
    let normal_is = number_field_takes of_deck (code.0.1) (normal.0) (normal.1) in
    let crash_is = number_field_takes of_deck (normal.0.1) (crash.0) (crash.1) in
    let slope_is = number_field_takes of_deck (crash.0.1) (slope.0) (slope.1) in
    let limit_is = number_field_takes of_deck (slope.0.1) (limit.0) (limit.1) in
    subst (λ l. IsAsk (codes "TRY") fields l) (end.1) (record {
      text = ap (λ x. codes "TRY" ++ x) (
          code_is.text ∙ ap (λ x. spaced (code.0.0) x) (
          normal_is.text ∙ ap (λ x. spaced (decimal (normal.0.0)) x) (
          crash_is.text ∙ ap (λ x. spaced (decimal (crash.0.0)) x) (
          slope_is.text ∙ ap (λ x. spaced (decimal (slope.0.0)) x) (
          limit_is.text ∙ ap (λ x. spaced (decimal (limit.0.0)) x) (end.0))))));
      fits = (code_is.code_is, normal_is.small, crash_is.small, slope_is.small, limit_is.small);
    })

try_again : (trial : Trial) → IsWritableAsk (ask.Try trial) →
    try_ask (spaced trial.act (spaced (decimal trial.normal) (spaced (decimal trial.crash) (spaced (decimal trial.slope) (spaced (decimal trial.length) []))))) ≡ Some (ask.Try trial)
unfolding try_ask
try_again trial h =
    rw (
      code_field_again trial.act (spaced (decimal trial.normal) (spaced (decimal trial.crash) (spaced (decimal trial.slope) (spaced (decimal trial.length) [])))) (h.0) (space _),
      number_field_again of_deck trial.normal (spaced (decimal trial.crash) (spaced (decimal trial.slope) (spaced (decimal trial.length) []))) (h.1) (space _),
      number_field_again of_deck trial.crash (spaced (decimal trial.slope) (spaced (decimal trial.length) [])) (h.2) (space _),
      number_field_again of_deck trial.slope (spaced (decimal trial.length) []) (h.3) (space _),
      number_field_again of_deck trial.length [] (h.4) nothing,
    ) refl

-- ---- the complete line

ask_with_takes : (word fields : List ℕ) (a : Ask) → ask_with word fields ≡ Some a → IsAsk word fields a
ask_with_takes word fields a =
    let reads = λ (name : List ℕ). IsAsk name fields a in
    let by = one_word ask_text IsWritableAsk in
    either reads word (codes "TRY") _ _ a (try_takes fields a)
    (either reads word (codes "ESTIMATE") _ _ a (estimate_takes fields a)
    (either reads word (codes "NORMAL") _ _ a (normal_takes fields a)
    (either reads word (codes "CRASH") _ _ a (crash_takes fields a)
    (either reads word (codes "SLOPE") _ _ a (slope_takes fields a)
    (either reads word (codes "UNDO") _ _ a (by (codes "UNDO") fields ask.Undo a refl tt)
    (either reads word (codes "TIMES") _ _ a (by (codes "TIMES") fields ask.Times a refl tt)
    (either reads word (codes "CURVE") _ _ a (by (codes "CURVE") fields ask.Curve a refl tt)
    (no_name reads word a))))))))

-- a request that is read is in the line
ask_takes : (line : List ℕ) (a : Ask) → ask_of line ≡ Some a → Asks line a
unfolding ask_of
ask_takes line a e =
    let short = unless_takes (ltb MAX_LINE (length line)) (ask_with (take (run_len 32 line) line) (drop (run_len 32 line) line)) a e in
    let is = ask_with_takes (take (run_len 32 line) line) (drop (run_len 32 line) line) a (short.1) in
    record { fits = is.fits; spelled = sym (take-append-drop (run_len 32 line) line) ∙ is.text; short = ltb-false _ _ (short.0) }

ask_again : (a : Ask) → IsWritableAsk a → ask_with (take (run_len 32 (ask_text a)) (ask_text a)) (drop (run_len 32 (ask_text a)) (ask_text a)) ≡ Some a
ask_again (ask.Edit edit) h = change_again edit.act edit.change h
  where
    change_again : (act : List ℕ) (change : Change) → IsWritableAsk (edit_of act change) →
        ask_with (take (run_len 32 (ask_text (edit_of act change))) (ask_text (edit_of act change)))
        (drop (run_len 32 (ask_text (edit_of act change))) (ask_text (edit_of act change))) ≡ Some (edit_of act change)
    change_again act (Estimate new) h = estimate_again act new h
    change_again act (Normal n) h = normal_again act n (h.0) (h.1)
    change_again act (Crash n) h = crash_again act n (h.0) (h.1)
    change_again act (Slope n) h = slope_again act n (h.0) (h.1)
ask_again ask.Undo h = refl
ask_again ask.Times h = refl
ask_again ask.Curve h = refl
ask_again (ask.Try trial) h = try_again trial h

asked_again : (line : List ℕ) (a : Ask) → Asks line a → ask_of line ≡ Some a
unfolding ask_of
asked_again line a asks =
    unless_again (ltb MAX_LINE (length line)) _ (le-ltb _ _ asks.short)
    ∙ ap (λ l. ask_with (take (run_len 32 l) l) (drop (run_len 32 l) l)) asks.spelled
    ∙ ask_again a asks.fits

-- what a call that reads gave
pub read_asked : (found : Option Ask) (line : List ℕ) → found ≡ ask_of line → IfSome found (Asks line)
read_asked None line e = tt
read_asked (Some a) line e = ask_takes line a (sym e)

pub read_again : (found : Option Ask) (line : List ℕ) (a : Ask) → found ≡ ask_of line → Asks line a → found ≡ Some a
read_again found line a e asks = e ∙ asked_again line a asks
