-- The records of a deck, kind by kind: those of one kind are its cards' records, one after the other, and give its cards.
use Rattle.std.proofs.Common.{◌≡◌, ℕ, ◌+◌, ◌≤◌, Bool, true, false, List, [], ◌∷◌, ◌++◌, length, map, flat_map, Some, None, All, refl, sym, ap, ◌∙◌, arith, append-nil, if◌then◌else◌, bytes_eq, suc}
use Rattle.std.specs.List.{enumerate_from}
use Rattle.std.proofs.lemmas.List.{length-map}
use Rattle.std.proofs.lemmas.List.Elements.{All-append, All-cons, All-nil, filter-append}
use Rattle.pc_model.specs.Codes.{text_at}
use Rattle.pc_faults.specs.Kinds.{word_of}
use Rattle.pc_faults.specs.declared.kind.Kind.{Kind}
use Rattle.pc_faults.specs.declared.kind.Kind.TheVariants.{Project, Task, After, End}
use Rattle.pc_cards.specs.Cards.{Numbered, cards_from, is_card}
use Rattle.pc_cards.specs.Named.{HeldBy, listed_by, numbered_by, numbered_from}
use Rattle.pc_deck.specs.WrittenKinds.{written_of}
use Rattle.pc_deck.specs.Kinds.{CardOf, card_of, held_in, is_same, kinds, stands_once}
use Rattle.pc_deck.specs.Deck.{Deck, list_of}
use Rattle.pc_deck.specs.Refusal.{of_kind}
use Rattle.pc_deck.specs.Says.{Says, spelled}
use Rattle.pc_deck.specs.Text.{deck_rows, record_of, records_of, renumbered, settled}
use Rattle.pc_deck.specs.inside.Text.{first_record}
use Rattle.pc_deck.specs.Within.{IsWithinLimits}
use Rattle.pc_deck.proofs.WrittenLemmas.{IsWritten, settled-within, written-settled}

pub enumerate_from-append : (row : ℕ) (some more : List (List (List ℕ))) → enumerate_from row (some ++ more) ≡ enumerate_from row some ++ enumerate_from (row + length some) more
enumerate_from-append row [] more = let same : row ≡ row + 0 = omega arith in ap (λ (n : ℕ). enumerate_from n more) same
enumerate_from-append row (x ∷ some) more =
    let same : row + 1 + length some ≡ row + suc (length some) = omega arith in
    ap (λ rest. (row, x) ∷ rest) (enumerate_from-append (row + 1) some more ∙ ap (λ (n : ℕ). enumerate_from (row + 1) some ++ enumerate_from n more) same)

-- of the records of one kind, all are of a kind or none
of_kind-own : (kind other : Kind) (test : Bool) → is_same other kind ≡ test → (row : ℕ) (cards : List (CardOf other))
    → of_kind kind (enumerate_from row (map (record_of other) cards)) ≡ (if test then enumerate_from row (map (record_of other) cards) else [])
of_kind-own kind other true is row [] = refl
of_kind-own kind other false is row [] = refl
of_kind-own kind other true is row (card ∷ cards) =
    ap (λ (b : Bool). if b then (row, record_of other card) ∷ of_kind kind (enumerate_from (row + 1) (map (record_of other) cards))
    else of_kind kind (enumerate_from (row + 1) (map (record_of other) cards))) is
    ∙ ap (λ rest. (row, record_of other card) ∷ rest) (of_kind-own kind other true is (row + 1) cards)
of_kind-own kind other false is row (card ∷ cards) =
    ap (λ (b : Bool). if b then (row, record_of other card) ∷ of_kind kind (enumerate_from (row + 1) (map (record_of other) cards))
    else of_kind kind (enumerate_from (row + 1) (map (record_of other) cards))) is
    ∙ of_kind-own kind other false is (row + 1) cards

-- what is left of the records of some kinds, where those of one kind alone are looked at
abbrev left_of : Deck → Kind → ℕ → List Kind → List Numbered
left_of deck kind row [] = []
left_of deck kind row (other ∷ rest) =
    (if is_same other kind then enumerate_from row (records_of deck other) else []) ++ left_of deck kind (row + length (list_of deck other)) rest

of_kind-some : (deck : Deck) (kind : Kind) (row : ℕ) (some : List Kind) → of_kind kind (enumerate_from row (flat_map (records_of deck) some)) ≡ left_of deck kind row some
of_kind-some deck kind row [] = refl
of_kind-some deck kind row (other ∷ rest) =
    ap (of_kind kind) (enumerate_from-append row (records_of deck other) (flat_map (records_of deck) rest))
    ∙ (filter-append (λ (c : Numbered). bytes_eq (text_at c.1 0) (word_of kind)) (enumerate_from row (records_of deck other))
    (enumerate_from (row + length (records_of deck other)) (flat_map (records_of deck) rest))
    ∙ (ap (λ own. own ++ of_kind kind (enumerate_from (row + length (records_of deck other)) (flat_map (records_of deck) rest)))
    (of_kind-own kind other (is_same other kind) refl row (list_of deck other))
    ∙ (ap (λ (n : ℕ). (if is_same other kind then enumerate_from row (records_of deck other) else []) ++ of_kind kind
    (enumerate_from (row + n) (flat_map (records_of deck) rest))) (length-map (list_of deck other) (record_of other))
    ∙ ap (λ more. (if is_same other kind then enumerate_from row (records_of deck other) else []) ++ more) (of_kind-some deck kind (row + length (list_of deck other)) rest))))

-- a plan within the limits has no card of a kind that plans have not
none_of : {C : Type 0} (cards : List C) → length cards ≤ 0 → cards ≡ []
none_of [] few = refl
none_of (card ∷ cards) few = absurd (omega (arith, few))

in_place : (deck : Deck) → IsWithinLimits deck → (kind : Kind) → left_of deck kind 1 kinds ≡ enumerate_from (first_record deck kind) (records_of deck kind)
in_place deck limits Project = append-nil (enumerate_from (first_record deck Project) (records_of deck Project))
in_place deck limits Task = ap (λ cards. enumerate_from (first_record deck Task) (map (record_of Task) cards)) (sym (none_of deck.tasks (limits Task).few))
in_place deck limits After = ap (λ cards. enumerate_from (first_record deck After) (map (record_of After) cards)) (sym (none_of deck.afters (limits After).few))
in_place deck limits kind = append-nil (enumerate_from (first_record deck kind) (records_of deck kind))

-- among the records of all kinds, those of a kind are its cards' records, from the first record of the kind on
pub of_kind-all : (deck : Deck) → IsWithinLimits deck → (kind : Kind) →
    of_kind kind (enumerate_from 1 (flat_map (records_of deck) kinds)) ≡ enumerate_from (first_record deck kind) (records_of deck kind)
of_kind-all deck limits kind = of_kind-some deck kind 1 kinds ∙ in_place deck limits kind

-- they spell the cards, in other records
reads : (kind : Kind) (row : ℕ) (cards : List (CardOf kind)) → All (IsWritten kind) cards
    → map (λ (c : Numbered). card_of kind c.0 c.1) (enumerate_from row (map (record_of kind) cards)) ≡ numbered_from (written_of kind).at_row row cards
reads kind row [] all = refl
reads kind row (card ∷ cards) all =
    let here : IsWritten kind card = all 0 card (omega arith) in
    λ i. here.reads row i ∷ reads kind (row + 1) cards (λ k d below. all (suc k) d (omega arith)) i

listed-numbered : (once : Bool) (C : Type 0) (at_row : ℕ → C → C) (row : ℕ) (held : HeldBy once C) →
    listed_by once C (numbered_by once C at_row row held) ≡ numbered_from at_row row (listed_by once C held)
listed-numbered true C at_row row None = refl
listed-numbered true C at_row row (Some card) = refl
listed-numbered false C at_row row held = refl

-- each list in its new records
pub list-renumbered : (deck : Deck) (kind : Kind) → list_of (renumbered deck) kind ≡ numbered_from (written_of kind).at_row (first_record deck kind) (list_of deck kind)
list-renumbered deck Project = refl
list-renumbered deck End = refl
list-renumbered deck kind = listed-numbered (stands_once kind) (CardOf kind) (written_of kind).at_row (first_record deck kind) (held_in deck.lists kind)

-- no record of a card is blank
all_cards : (row : ℕ) (rows : List (List (List ℕ))) → All (λ (r : List (List ℕ)). is_card (0, r) ≡ true) rows → cards_from row rows ≡ enumerate_from row rows
all_cards row [] all = refl
all_cards row (r ∷ rows) all =
    let here : is_card (0, r) ≡ true = all 0 r (omega arith) in
    ap (λ (b : Bool). if b then (row, r) ∷ cards_from (row + 1) rows else cards_from (row + 1) rows) here
    ∙ ap (λ rest. (row, r) ∷ rest) (all_cards (row + 1) rows (λ k d below. all (suc k) d (omega arith)))

a_card : (kind : Kind) (card : CardOf kind) → is_card (0, record_of kind card) ≡ true
a_card Project card = refl
a_card kind card = refl

are_cards : (kind : Kind) (cards : List (CardOf kind)) → All (λ (r : List (List ℕ)). is_card (0, r) ≡ true) (map (record_of kind) cards)
are_cards kind [] = All-nil (λ (r : List (List ℕ)). is_card (0, r) ≡ true)
are_cards kind (card ∷ cards) = All-cons (λ (r : List (List ℕ)). is_card (0, r) ≡ true) (record_of kind card) (map (record_of kind) cards) (a_card kind card) (are_cards kind cards)

some_cards : (deck : Deck) (some : List Kind) → All (λ (r : List (List ℕ)). is_card (0, r) ≡ true) (flat_map (records_of deck) some)
some_cards deck [] = All-nil (λ (r : List (List ℕ)). is_card (0, r) ≡ true)
some_cards deck (kind ∷ rest) =
    All-append (λ (r : List (List ℕ)). is_card (0, r) ≡ true) (records_of deck kind) (flat_map (records_of deck) rest) (are_cards kind (list_of deck kind)) (some_cards deck rest)

-- each record of a deck is a card
pub rows-cards : (deck : Deck) → cards_from 1 (deck_rows deck) ≡ enumerate_from 1 (deck_rows deck)
rows-cards deck = all_cards 1 (deck_rows deck) (some_cards (settled deck) kinds)

-- so the records of a deck say the same deck, settled and with other record numbers
pub rows-say : (deck : Deck) → IsWithinLimits deck → Says (cards_from 1 (deck_rows deck)) (renumbered (settled deck))
rows-say deck limits kind =
    ap (λ (cards : List Numbered). spelled kind cards) (rows-cards deck)
    ∙ (ap (map (λ (c : Numbered). card_of kind c.0 c.1)) (of_kind-all (settled deck) (settled-within deck limits) kind)
    ∙ (reads kind (first_record (settled deck) kind) (list_of (settled deck) kind) (written-settled deck limits kind)
    ∙ sym (list-renumbered (settled deck) kind)))
