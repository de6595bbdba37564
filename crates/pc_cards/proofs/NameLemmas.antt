-- Lists of cards in which no code occurs twice.
use Rattle.std.proofs.Common.{◌≡◌, ℕ, ◌+◌, ◌<◌, Bool, true, false, not, ◌||◌, nat_eq, List, [], ◌∷◌, ◌++◌, length, map}
use Rattle.std.proofs.Common.{drop, get_or, refl, sym, ap, subst, append_assoc, ◌∙◌, arith, length-append, suc}
use Rattle.std.proofs.lemmas.List.{drop_more, get_or_at, map-append}
use Rattle.std.specs.Cmp.Lexicographic.{pointwise, same_text}
use Rattle.pc_model.specs.Codes.{IsNamedOnce}
use Rattle.pc_cards.specs.Named.{is_among}

named_rest : (code : List ℕ) (codes : List (List ℕ)) → IsNamedOnce (code ∷ codes) → IsNamedOnce codes
named_rest code codes once = λ j k before within same. once (suc j) (suc k) (omega arith) (omega arith) same

-- a code after others is none of them
pub new_code : (front rest : List (List ℕ)) (code : List ℕ) → IsNamedOnce (front ++ code ∷ rest) → is_among code front ≡ false
new_code [] rest code once = refl
new_code (other ∷ front) rest code once = by (pointwise nat_eq code other) refl (new_code front rest code (named_rest other (front ++ code ∷ rest) once))
  where
    by : (test : Bool) → pointwise nat_eq code other ≡ test → is_among code front ≡ false → (test || is_among code front) ≡ false
    by true is more =
        let same : code ≡ other = same_text code other (sym is) in
        let at : get_or (front ++ code ∷ rest) (length front) [] ≡ code = get_or_at front code rest [] (length front) refl in
        absurd (once 0 (suc (length front)) (omega arith) (omega (arith, length-append front (code ∷ rest))) (sym same ∙ sym at))
    by false is more = more

-- one more card of a list without repeated codes is added to those before it
pub added_more : {C : Type 0} (code_of : C → List ℕ) (all so_far next cards : List C) (i : ℕ) (card : C) (is_new : Bool)
    → IsNamedOnce (map code_of all) → so_far ++ drop i cards ≡ all → i < length cards → card ≡ get_or cards i card
    → is_new ≡ not (is_among (code_of card) (map code_of so_far)) → (is_new ≡ true → next ≡ so_far ++ card ∷ []) → next ++ drop (i + 1) cards ≡ all
added_more code_of all so_far next cards i card is_new once is within at told added =
    let left : drop i cards ≡ card ∷ drop (i + 1) cards = drop_more cards i card within ∙ ap (λ c. c ∷ drop (i + 1) cards) (sym at) in
    let whole : so_far ++ card ∷ drop (i + 1) cards ≡ all = ap (λ rest. so_far ++ rest) (sym left) ∙ is in
    let codes : map code_of all ≡ map code_of so_far ++ code_of card ∷ map code_of (drop (i + 1) cards) =
    ap (map code_of) (sym whole) ∙ map-append code_of so_far (card ∷ drop (i + 1) cards) in
    let none = new_code (map code_of so_far) (map code_of (drop (i + 1) cards)) (code_of card) (subst IsNamedOnce codes once) in
    ap (λ these. these ++ drop (i + 1) cards) (added (told ∙ ap not none)) ∙ (append_assoc so_far (card ∷ []) (drop (i + 1) cards) ∙ whole)
