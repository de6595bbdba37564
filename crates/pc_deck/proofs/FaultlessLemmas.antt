-- Cards that are in order have no fault: each is what it must be, there are no more of a kind than there may be, no code
-- of a kind occurs twice, PROJECT comes first, and END comes last.
use Rattle.std.proofs.Common.{◌≡◌, ℕ, ◌+◌, ◌<◌, ◌≤◌, Bool, true, false, not, ◌&&◌, ◌==◌, nat_lt, List, [], ◌∷◌, ◌++◌, length, length-append, map, get_or}
use Rattle.std.proofs.Common.{Option, Some, None, All, Ok, if◌then◌else◌, bytes_eq, inl, inr, refl, sym, ap, ◌∙◌, subst, append_assoc, append-nil, arith}
use Rattle.std.specs.Cmp.Lexicographic.{bytes_decides}
use Rattle.std.proofs.lemmas.Bool.{false≢true, ne_eqb}
use Rattle.std.proofs.lemmas.List.{get_or_at, map-append}
use Rattle.std.proofs.lemmas.List.Elements.{filter-append}
use Rattle.std.specs.Bool.{then_some}
use Rattle.pc_faults.specs.Kinds.{word_of}
use Rattle.pc_faults.specs.declared.kind.Kind.{Kind}
use Rattle.pc_faults.specs.declared.kind.Kind.TheVariants.{Project, End}
use Rattle.pc_faults.specs.declared.fault.Fault.{Fault}
use Rattle.pc_model.specs.Codes.{text_at, IsNamedOnce}
use Rattle.pc_cards.specs.Cards.{Numbered}
use Rattle.pc_cards.specs.declared.sort.Sort.TheVariants.{Plan}
use Rattle.pc_cards.specs.inside.Findings.{one_too_many}
use Rattle.pc_cards.specs.Forms.{AllFit}
use Rattle.pc_cards.specs.Named.{is_among}
use Rattle.pc_cards.proofs.FindLemmas.{no_flaw, none_then}
use Rattle.pc_cards.proofs.NameLemmas.{new_code}
use Rattle.pc_deck.specs.inside.Judged.{fault_of_kind, judge, judge_of, unless}
use Rattle.pc_deck.specs.Kinds.{has_code_of_its_own, kind_of, limit_of, slots_of, stands_once}
use Rattle.pc_deck.specs.inside.Kinds.{is_project}
use Rattle.pc_deck.specs.Project.{version_in}
use Rattle.pc_deck.specs.Refusal.{HasFaultFrom, are_none, is_whole_as, of_kind, own_codes, seen_among, version_said}
use Rattle.pc_deck.specs.Within.{IsUpTo}
use Rattle.pc_deck.proofs.CardFaultLemmas.{not_faultless}
use Rattle.pc_deck.proofs.KindLemmas.{is_planned, kind_of-word, same_is}

-- a record is a card of the kind, which is one of a plan, and its fields are what they must be
pub record IsSound (kind : Kind) (fields : List (List ℕ)) : Type 0 where
  pub planned : is_planned kind ≡ true
  pub named : text_at fields 0 ≡ word_of kind
  pub whole : is_whole_as kind fields ≡ true
  pub fit : AllFit (slots_of Plan kind) fields

-- PROJECT comes first, and its deck is of version 2
abbrev pub Begins : List Numbered → Type 0
Begins [] = ⊥
Begins (card ∷ cards) = (text_at card.1 0 ≡ word_of Project) × (version_in (text_at card.1 8) ≡ 2)

-- the cards are in order
pub record IsInOrder (cards : List Numbered) : Type 0 where
  pub sound : All (λ (card : Numbered). (kind : Kind) × IsSound kind card.1) cards
  pub once : (kind : Kind) → stands_once kind ≡ true → length (of_kind kind cards) ≤ 1
  pub few : (kind : Kind) → IsUpTo (limit_of Plan 2 kind) (length (of_kind kind cards))
  pub differ : (kind : Kind) → has_code_of_its_own kind ≡ true → IsNamedOnce (map (λ (card : Numbered). text_at card.1 1) (of_kind kind cards))
  pub begins : Begins cards
  pub ends_once : length (of_kind End cards) ≤ 1
  -- after each front there is an END card
  pub ends : (front rest : List Numbered) → cards ≡ front ++ rest → 0 < length rest → 0 < length (of_kind End rest)

-- the cards of a kind, around one of them
around : (cards front rest : List Numbered) (card : Numbered) (kind : Kind) → cards ≡ front ++ card ∷ rest → text_at card.1 0 ≡ word_of kind
    → of_kind kind cards ≡ of_kind kind front ++ card ∷ of_kind kind rest
around cards front rest card kind is named =
    let test : bytes_eq (text_at card.1 0) (word_of kind) ≡ true = (bytes_decides (text_at card.1 0) (word_of kind)).1 named in
    ap (of_kind kind) is
    ∙ filter-append (λ (c : Numbered). bytes_eq (text_at c.1 0) (word_of kind)) front (card ∷ rest)
    ∙ ap (λ (b : Bool). of_kind kind front ++ (if b then card ∷ of_kind kind rest else of_kind kind rest)) test

-- so there are fewer before it
fewer : (cards front rest : List Numbered) (card : Numbered) (kind : Kind) → cards ≡ front ++ card ∷ rest → text_at card.1 0 ≡ word_of kind
    → length (of_kind kind front) < length (of_kind kind cards)
fewer cards front rest card kind is named =
    omega (arith, ap length (around cards front rest card kind is named), length-append (of_kind kind front) (card ∷ of_kind kind rest))

-- a kind that has PROJECT's word is PROJECT
project_only : (kind : Kind) (field : List ℕ) → field ≡ word_of kind → field ≡ word_of Project → kind ≡ Project
project_only kind field named first = same_is kind Project ((bytes_decides (word_of kind) (word_of Project)).1 (sym named ∙ first))

-- what no test finds
not_found : {A : Type 0} (test : Bool) (found : A) → test ≡ false → then_some test found ≡ None
not_found true found not = absurd (false≢true (sym not))
not_found false found not = refl

-- F3: the first card is PROJECT
first_is : (front rest : List Numbered) (card : Numbered) (kind : Kind) → Begins (front ++ card ∷ rest) → text_at card.1 0 ≡ word_of kind
    → (are_none front && not (is_project kind)) ≡ false
first_is [] rest card kind begins named = ap (λ (k : Kind). not (is_project k)) (project_only kind (text_at card.1 0) named begins.0)
first_is (p ∷ more) rest card kind begins named = refl

-- F5: a card of a kind that occurs once has none of its kind before it
alone : (test : Bool) (count : ℕ) → (test ≡ true → count ≡ 0) → (test && nat_lt 0 count) ≡ false
alone false count none = refl
alone true count none = let zero_is = none refl in ap (nat_lt 0) zero_is

-- F9: its code is new
new_by : (coded : Bool) (codes : List (List ℕ)) (code : List ℕ) → (coded ≡ true → is_among code codes ≡ false) → is_among code (if coded then codes else []) ≡ false
new_by true codes code new = new refl
new_by false codes code new = refl

-- F10: the limit of its kind is not reached
room_left : (kind : Kind) (row count total : ℕ) (limit : Option ℕ) → IsUpTo limit total → count < total → one_too_many kind row count limit ≡ None
room_left kind row count total None few less = refl
room_left kind row count total (Some most) few less = not_found (count == most) _ (ne_eqb count most (λ same. omega arith))

full : (front rest : List Numbered) (card : Numbered) (kind : Kind) (row total : ℕ) → Begins (front ++ card ∷ rest) → text_at card.1 0 ≡ word_of kind
    → IsUpTo (limit_of Plan 2 kind) total → length (of_kind kind front) < total
    → one_too_many kind row (length (of_kind kind front)) (limit_of Plan (version_said (of_kind Project front)) kind) ≡ None
full [] rest card kind row total begins named few less =
    subst (λ (k : Kind). one_too_many k row 0 (limit_of Plan 1 k) ≡ None) (sym (project_only kind (text_at card.1 0) named begins.0)) refl
full (p ∷ more) rest card kind row total begins named few less =
    let test : bytes_eq (text_at p.1 0) (word_of Project) ≡ true = (bytes_decides (text_at p.1 0) (word_of Project)).1 begins.0 in
    let version : version_said (of_kind Project (p ∷ more)) ≡ 2 =
    ap (λ (b : Bool). version_said (if b then p ∷ of_kind Project more else of_kind Project more)) test ∙ begins.1 in
    ap (λ (v : ℕ). one_too_many kind row (length (of_kind kind (p ∷ more))) (limit_of Plan v kind)) version
    ∙ room_left kind row (length (of_kind kind (p ∷ more))) total (limit_of Plan 2 kind) few less

-- F11: no END card came before it
no_end : (ends : List Numbered) → length ends ≡ 0 → not (are_none ends) ≡ false
no_end [] none = refl
no_end (card ∷ ends) none = absurd (omega arith)

-- each card of cards in order is judged to have no fault
judged : (cards front rest : List Numbered) (card : Numbered) (kind : Kind) → IsInOrder cards → cards ≡ front ++ card ∷ rest → IsSound kind card.1
    → judge (seen_among Plan front) card.0 card.1 ≡ Ok kind
judged cards front rest card kind order is sound =
    ap (judge_of (seen_among Plan front) card.0 card.1) (ap (kind_of Plan) sound.named ∙ kind_of-word kind sound.planned) ∙ ap (unless kind) none
  where
    begins : Begins (front ++ card ∷ rest)
    begins = subst Begins is order.begins

    less : length (of_kind kind front) < length (of_kind kind cards)
    less = fewer cards front rest card kind is sound.named

    code_is_new : has_code_of_its_own kind ≡ true → is_among (text_at card.1 1) (map (λ (c : Numbered). text_at c.1 1) (of_kind kind front)) ≡ false
    code_is_new coded =
        let code = λ (c : Numbered). text_at c.1 1 in
        let codes = ap (map code) (around cards front rest card kind is sound.named) ∙ map-append code (of_kind kind front) (card ∷ of_kind kind rest) in
        new_code (map code (of_kind kind front)) (map code (of_kind kind rest)) (text_at card.1 1) (subst IsNamedOnce codes (order.differ kind coded))

    ended : length (of_kind End front) ≡ 0
    ended =
        let behind = order.ends front (card ∷ rest) is (omega arith) in
        let both : length (of_kind End cards) ≡ length (of_kind End front) + length (of_kind End (card ∷ rest)) =
        ap (λ (all : List Numbered). length (of_kind End all)) is
        ∙ (ap length (filter-append (λ (c : Numbered). bytes_eq (text_at c.1 0) (word_of End)) front (card ∷ rest)) ∙ length-append (of_kind End front) (of_kind End (card ∷ rest))) in
        let one = order.ends_once in
        omega (arith, behind, both, one)

    none : fault_of_kind (seen_among Plan front) kind card.0 card.1 ≡ None
    none =
        none_then _ _ None (not_found (are_none front && not (is_project kind)) _ (first_is front rest card kind begins sound.named))
        (none_then _ _ None (not_found (stands_once kind && nat_lt 0 (length (of_kind kind front))) _
        (alone (stands_once kind) (length (of_kind kind front)) (λ once. let most = order.once kind once in omega (arith, most, less))))
        (none_then _ _ None (not_found (not (is_whole_as kind card.1)) _ (ap not sound.whole))
        (none_then _ _ None (no_flaw card.0 (slots_of Plan kind) card.1 sound.fit)
        (none_then _ _ None (not_found (is_among (text_at card.1 1) (own_codes kind front)) _ (new_by (has_code_of_its_own kind) _ (text_at card.1 1) code_is_new))
        (none_then _ _ None (full front rest card kind card.0 (length (of_kind kind cards)) begins sound.named (order.few kind) less)
        (not_found (not (are_none (of_kind End front))) _ (no_end (of_kind End front) ended)))))))

-- so there is no fault after any front of them
from_here : (cards front rest : List Numbered) (end : ℕ) (found : Fault) → IsInOrder cards → cards ≡ front ++ rest → HasFaultFrom Plan front end rest found → ⊥
from_here cards front [] end found order is has =
    let same : cards ≡ front = is ∙ append-nil front in
    let behind = order.ends [] cards refl (some cards order.begins) in
    absurd (omega (arith, behind, ap (λ (all : List Numbered). length (of_kind End all)) same, none_left (of_kind End front) has.0))
  where
    some : (all : List Numbered) → Begins all → 0 < length all
    some [] begins = absurd begins
    some (card ∷ all) begins = omega arith

    none_left : (ends : List Numbered) → not (are_none ends) ≡ false → length ends ≡ 0
    none_left [] none = refl
    none_left (card ∷ ends) none = absurd (false≢true (sym none))
from_here cards front (card ∷ rest) end found order is (inl here) =
    let kind = subst (λ (all : List Numbered). All (λ (c : Numbered). (kind : Kind) × IsSound kind c.1) all) is order.sound (length front) card (omega (arith, length-append front (card ∷ rest))) in
    let at : get_or (front ++ card ∷ rest) (length front) card ≡ card = get_or_at front card rest card (length front) refl in
    let sound = subst (λ (c : Numbered). IsSound kind.0 c.1) at kind.1 in
    not_faultless (seen_among Plan front) card found kind.0 (judged cards front rest card kind.0 order is sound) here
from_here cards front (card ∷ rest) end found order is (inr later) =
    from_here cards (front ++ card ∷ []) rest end found order (is ∙ sym (append_assoc front (card ∷ []) rest)) later

-- cards in order have no fault
pub faultless : (cards : List Numbered) (end : ℕ) (found : Fault) → IsInOrder cards → HasFaultFrom Plan [] end cards found → ⊥
faultless cards end found order has = from_here cards [] cards end found order refl has
