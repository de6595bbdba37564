-- The cards of a deck that was read: each is read from its record, and no two of them have the same record.
use Rattle.std.proofs.Common.{◌≡◌, ◌≢◌, ℕ, zero, suc, ◌+◌, ◌<◌, ◌≤◌, Bool, true, false, List, [], ◌∷◌}
use Rattle.std.proofs.Common.{length, map, get_or, Option, Some, All, if◌then◌else◌, bytes_eq, ◌⊎◌, inl, inr, refl, sym, ap, ◌∙◌, subst, arith}
use Rattle.std.specs.Prelude.{slice_index, option_to_list}
use Rattle.std.specs.List.{Any}
use Rattle.std.specs.Cmp.Lexicographic.{bytes_decides}
use Rattle.std.proofs.lemmas.List.{get_or-map, length-map}
use Rattle.std.proofs.lemmas.List.Elements.{All-cons, All-nil, All-weaker}
use Rattle.pc_model.specs.Codes.{text_at}
use Rattle.pc_cards.specs.Cards.{Numbered, deck_cards}
use Rattle.pc_cards.specs.declared.sort.Sort.{Sort}
use Rattle.pc_deck.specs.Deck.{Deck, list_of}
use Rattle.pc_deck.specs.Kinds.{CardOf, card_of}
use Rattle.pc_deck.specs.Read.{IsReadAs}
use Rattle.pc_deck.specs.Refusal.{of_kind}
use Rattle.pc_deck.specs.Says.{Says, spelled}
use Rattle.pc_deck.specs.declared.kinds.as_of.AsOfCard.{AsOfCard}
use Rattle.pc_deck.proofs.KindLemmas.{same_is}
use Rattle.pc_faults.specs.Kinds.{word_of}
use Rattle.pc_faults.specs.declared.fault.Fault.{Fault}
use Rattle.pc_faults.specs.declared.kind.Kind.{Kind}
use Rattle.pc_faults.specs.declared.kind.Kind.TheVariants.{AsOf, Piece, Status}
use Rattle.pc_project.specs.Records.{status_records}
use Rattle.pert_cli.proofs.CardOnceLaws.{Rises, deck_rises}
use Rattle.pert_cli.proofs.FirstOnceLaws.{AreToldByPlace, by_number}

-- ---- among cards whose records rise

-- a card is one of those
abbrev pub Stands : List Numbered → Numbered → Type 0
Stands [] c = ⊥
Stands (card ∷ cards) c = (card ≡ c) ⊎ Stands cards c

pub stands_behind : (n : ℕ) (cards : List Numbered) (c : Numbered) → Rises n cards → Stands cards c → n ≤ c.0
stands_behind n [] c rising there = absurd there
stands_behind n (card ∷ cards) c rising (inl here) = omega (arith, rising.0, ap (λ (d : Numbered). d.0) here)
stands_behind n (card ∷ cards) c rising (inr behind) = let far = stands_behind (card.0 + 1) cards c rising.1 behind in omega (arith, rising.0, far)

-- a record has only one card
pub stands_once : (n : ℕ) (cards : List Numbered) (c d : Numbered) → Rises n cards → Stands cards c → Stands cards d → c.0 ≡ d.0 → c ≡ d
stands_once n [] c d rising there also same = absurd there
stands_once n (card ∷ cards) c d rising (inl here) (inl also) same = sym here ∙ also
stands_once n (card ∷ cards) c d rising (inl here) (inr also) same =
    let far = stands_behind (card.0 + 1) cards d rising.1 also in absurd (omega (arith, far, same, ap (λ (e : Numbered). e.0) here))
stands_once n (card ∷ cards) c d rising (inr there) (inl also) same =
    let far = stands_behind (card.0 + 1) cards c rising.1 there in absurd (omega (arith, far, same, ap (λ (e : Numbered). e.0) also))
stands_once n (card ∷ cards) c d rising (inr there) (inr also) same = stands_once (card.0 + 1) cards c d rising.1 there also same

-- its first field is the word of the kind
abbrev pub IsNamed : Kind → Numbered → Type 0
IsNamed kind card = bytes_eq (text_at card.1 0) (word_of kind) ≡ true

pub one_kind : (kind other : Kind) (card : Numbered) → IsNamed kind card → IsNamed other card → kind ≡ other
one_kind kind other card is also =
    same_is kind other
    ((bytes_decides (word_of kind) (word_of other)).1
    (sym ((bytes_decides (text_at card.1 0) (word_of kind)).0 is) ∙ (bytes_decides (text_at card.1 0) (word_of other)).0 also))

-- the card of a kind is read from a record among those
abbrev pub IsSpelled : List Numbered → (kind : Kind) → CardOf kind → Type 0
IsSpelled cards kind card = (c : Numbered) × Stands cards c × IsNamed kind c × (card ≡ card_of kind c.0 c.1)

spelled_behind : (first : Numbered) (cards : List Numbered) (kind : Kind) (card : CardOf kind) → IsSpelled cards kind card → IsSpelled (first ∷ cards) kind card
spelled_behind first cards kind card (c, there, named, is) = (c, inr there, named, is)

all_spelled : (kind : Kind) (cards : List Numbered) → All (IsSpelled cards kind) (spelled kind cards)
all_spelled kind [] = All-nil (IsSpelled [] kind)
all_spelled kind (first ∷ cards) =
    by_test (bytes_eq (text_at first.1 0) (word_of kind)) refl
    (All-weaker (IsSpelled cards kind) (IsSpelled (first ∷ cards) kind) (spelled_behind first cards kind) (spelled kind cards) (all_spelled kind cards))
  where
    by_test : (test : Bool) → bytes_eq (text_at first.1 0) (word_of kind) ≡ test → All (IsSpelled (first ∷ cards) kind) (spelled kind cards) →
        All (IsSpelled (first ∷ cards) kind) (map (λ (c : Numbered). card_of kind c.0 c.1) (if test then first ∷ of_kind kind cards else of_kind kind cards))
    by_test true is behind = All-cons (IsSpelled (first ∷ cards) kind) (card_of kind first.0 first.1) (spelled kind cards) (first, inl refl, is, refl) behind
    by_test false is behind = behind

-- what holds of some element and of all holds of one
pub some_of_all : {X : Type 0} (P Q : X → Type 0) (xs : List X) → Any P xs → All Q xs → (x : X) × P x × Q x
some_of_all P Q xs (k, x, within, at, holds) all = (x, holds, subst Q at (all k x within))

-- ---- records of one kind

-- numbers rise from n on
abbrev Rising : ℕ → List ℕ → Type 0
Rising n [] = Unit {0}
Rising n (x ∷ xs) = (n ≤ x) × Rising (x + 1) xs

rising_lower : (n m : ℕ) (xs : List ℕ) → n ≤ m → Rising m xs → Rising n xs
rising_lower n m [] few h = tt
rising_lower n m (x ∷ xs) few h = (omega (arith, few, h.0), h.1)

kind_rises : (kind : Kind) (n : ℕ) (cards : List Numbered) → Rises n cards → Rising n (map (λ (c : Numbered). c.0) (of_kind kind cards))
kind_rises kind n [] rising = tt
kind_rises kind n (first ∷ cards) rising = by_test (bytes_eq (text_at first.1 0) (word_of kind)) (kind_rises kind (first.0 + 1) cards rising.1)
  where
    by_test : (test : Bool) → Rising (first.0 + 1) (map (λ (c : Numbered). c.0) (of_kind kind cards)) →
        Rising n (map (λ (c : Numbered). c.0) (if test then first ∷ of_kind kind cards else of_kind kind cards))
    by_test true behind = (rising.0, behind)
    by_test false behind = rising_lower n (first.0 + 1) (map (λ (c : Numbered). c.0) (of_kind kind cards)) (omega (arith, rising.0)) behind

rising_behind : (n : ℕ) (xs : List ℕ) (k : ℕ) → Rising n xs → k < length xs → n ≤ slice_index xs k
rising_behind n [] k rising within = absurd (omega (arith, within))
rising_behind n (x ∷ xs) zero rising within = rising.0
rising_behind n (x ∷ xs) (suc k) rising within = let far = rising_behind (x + 1) xs k rising.1 (omega (arith, within)) in omega (arith, far, rising.0)

rising_once : (n : ℕ) (xs : List ℕ) (j k : ℕ) → Rising n xs → j < length xs → k < length xs → slice_index xs j ≡ slice_index xs k → j ≡ k
rising_once n [] j k rising low high same = absurd (omega (arith, low))
rising_once n (x ∷ xs) zero zero rising low high same = refl
rising_once n (x ∷ xs) zero (suc k) rising low high same =
    let far = rising_behind (x + 1) xs k rising.1 (omega (arith, high)) in absurd (omega (arith, far, same))
rising_once n (x ∷ xs) (suc j) zero rising low high same =
    let far = rising_behind (x + 1) xs j rising.1 (omega (arith, low)) in absurd (omega (arith, far, same))
rising_once n (x ∷ xs) (suc j) (suc k) rising low high same =
    ap suc (rising_once (x + 1) xs j k rising.1 (omega (arith, low)) (omega (arith, high)) same)

mapped_twice : {X Y : Type 0} (f : X → Y) (row : Y → ℕ) (own : X → ℕ) → ((x : X) → row (f x) ≡ own x) → (xs : List X) → map row (map f xs) ≡ map own xs
mapped_twice f row own each [] = refl
mapped_twice f row own each (x ∷ xs) = λ i. each x i ∷ mapped_twice f row own each xs i

-- ---- in a deck that was read

-- no two STATUS cards and no two PIECE cards have the same record, and no STATUS card has that of the ASOF card
pub record HasOwnRows (deck : Deck) : Type 0 where
  pub statuses : (j k : ℕ) → j < length deck.statuses → k < length deck.statuses → slice_index (status_records deck) j ≡ slice_index (status_records deck) k → j ≡ k
  pub pieces : (j k : ℕ) → j < length deck.pieces → k < length deck.pieces →
      slice_index (map (λ piece. piece.row) deck.pieces) j ≡ slice_index (map (λ piece. piece.row) deck.pieces) k → j ≡ k
  pub as_of : (card : AsOfCard) → deck.as_of ≡ Some card → (k : ℕ) → k < length deck.statuses → card.row ≢ slice_index (status_records deck) k

module _ (cards : List Numbered) (deck : Deck) (rising : Rises 1 cards) (says : Says cards deck) where
  -- each card of the deck is read from one of its records
  pub list_spelled : (kind : Kind) → All (IsSpelled cards kind) (list_of deck kind)
  list_spelled kind = subst (All (IsSpelled cards kind)) (says kind) (all_spelled kind cards)

  -- the records of a kind's cards, by what each of them says of its record
  once_of : (kind : Kind) (row : CardOf kind → ℕ) → ((c : Numbered) → row (card_of kind c.0 c.1) ≡ c.0) → (j k : ℕ) → j < length (list_of deck kind) →
      k < length (list_of deck kind) → slice_index (map row (list_of deck kind)) j ≡ slice_index (map row (list_of deck kind)) k → j ≡ k
  once_of kind row each j k low high same =
      let rows : map row (list_of deck kind) ≡ map (λ (c : Numbered). c.0) (of_kind kind cards) =
      ap (map row) (sym (says kind)) ∙ mapped_twice (λ (c : Numbered). card_of kind c.0 c.1) row (λ (c : Numbered). c.0) each (of_kind kind cards) in
      let own : Rising 1 (map row (list_of deck kind)) = subst (Rising 1) (sym rows) (kind_rises kind 1 cards rising) in
      rising_once 1 (map row (list_of deck kind)) j k own (omega (arith, low, length-map (list_of deck kind) row)) (omega (arith, high, length-map (list_of deck kind) row)) same

  as_of_apart : (card : AsOfCard) → deck.as_of ≡ Some card → (k : ℕ) → k < length deck.statuses → card.row ≢ slice_index (status_records deck) k
  as_of_apart card is k within same =
      let here : IsSpelled cards AsOf card = subst (λ (held : Option AsOfCard). All (IsSpelled cards AsOf) (option_to_list held)) is (list_spelled AsOf) 0 card (omega arith) in
      let status = get_or deck.statuses k (card_of Status 0 []) in
      let there : IsSpelled cards Status status = list_spelled Status k (card_of Status 0 []) within in
      let own : status.row ≡ slice_index (status_records deck) k = sym (get_or-map (λ (s : CardOf Status). s.row) deck.statuses k (card_of Status 0 []) 0 within) in
      let rows : here.0.0 ≡ there.0.0 = sym (ap (λ (a : AsOfCard). a.row) here.3) ∙ (same ∙ (sym own ∙ ap (λ (s : CardOf Status). s.row) there.3)) in
      let one = stands_once 1 cards here.0 there.0 rising here.1 there.1 rows in
      let kinds : AsOf ≡ Status = one_kind AsOf Status there.0 (subst (IsNamed AsOf) one here.2) there.2 in
      cc

  pub own_rows : HasOwnRows deck
  own_rows = record {
    statuses = once_of Status (λ (s : CardOf Status). s.row) (λ c. refl);
    pieces = once_of Piece (λ (p : CardOf Piece). p.row) (λ c. refl);
    as_of = as_of_apart;
  }

  -- faults of a card that its kind, its record and the number determine are determined by record and number
  module _ (Faulty : (kind : Kind) → CardOf kind → Fault → Type 0) (told : Kind → Numbered → ℕ → Fault)
      (is : (kind : Kind) (c : Numbered) (f : Fault) → Faulty kind (card_of kind c.0 c.1) f → f ≡ told kind c f.number)
      (row : (kind : Kind) (c : Numbered) (f : Fault) → Faulty kind (card_of kind c.0 c.1) f → f.row ≡ c.0) where
    -- a card among those has the fault
    abbrev pub IsCardFault : Fault → Type 0
    IsCardFault f = (kind : Kind) × (c : Numbered) × Stands cards c × IsNamed kind c × Faulty kind (card_of kind c.0 c.1) f

    pub some_card : (kind : Kind) (f : Fault) → Any (λ card. Faulty kind card f) (list_of deck kind) → IsCardFault f
    some_card kind f any =
        let one = some_of_all (λ card. Faulty kind card f) (IsSpelled cards kind) (list_of deck kind) any (list_spelled kind) in
        (kind, one.2.0, one.2.1, one.2.2, subst (λ card. Faulty kind card f) one.2.3 one.1)

    pub card_fault_once : AreToldByPlace IsCardFault
    card_fault_once f g (kind, c, there, named, faulty) (other, d, also, called, wrong) rows numbers =
        let one : c ≡ d = stands_once 1 cards c d rising there also (sym (row kind c f faulty) ∙ (rows ∙ row other d g wrong)) in
        let same : kind ≡ other = one_kind kind other d (subst (IsNamed kind) one named) called in
        let here : f ≡ told other d f.number = is kind c f faulty ∙ (ap (λ (k : Kind). told k c f.number) same ∙ ap (λ (e : Numbered). told other e f.number) one) in
        by_number (told other d) f g here (is other d g wrong) numbers

-- the deck of a sort that bytes are
pub rows_of_read : (sort : Sort) (bytes : List ℕ) (deck : Deck) → IsReadAs sort bytes deck → HasOwnRows deck
rows_of_read sort bytes deck read = own_rows (deck_cards bytes) deck (deck_rises bytes) read.says
