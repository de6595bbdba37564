-- The records of a deck within its limits are in order.
use Rattle.std.proofs.Common.{◌≡◌, ℕ, ◌+◌, ◌<◌, Bool, true, List, [], ◌∷◌, ◌++◌, drop, length, length-append, map, flat_map, All, if◌then◌else◌, bytes_eq, refl, sym, ap, ◌∙◌, subst, suc, arith}
use Rattle.std.specs.Cmp.Lexicographic.{bytes_decides}
use Rattle.std.specs.List.{enumerate_from}
use Rattle.std.proofs.lemmas.List.{length-map}
use Rattle.std.proofs.lemmas.List.Concat.{flat_map-append}
use Rattle.std.proofs.lemmas.List.Elements.{All-append, All-cons, All-head, All-nil, All-tail, filter-append}
use Rattle.pc_faults.specs.Kinds.{word_of}
use Rattle.pc_faults.specs.declared.kind.Kind.{Kind}
use Rattle.pc_faults.specs.declared.kind.Kind.TheVariants.{Project, AsOf, Terms, Wbs, Event, Act, Task, Piece, Acct, Charge, ToGo, Status, Res, Load, End}
use Rattle.pc_model.specs.Codes.{text_at, IsNamedOnce}
use Rattle.pc_cards.specs.Cards.{Numbered}
use Rattle.pc_cards.specs.declared.sort.Sort.TheVariants.{Plan}
use Rattle.pc_deck.specs.Deck.{Deck, list_of}
use Rattle.pc_deck.specs.Kinds.{CardOf, entry_of, has_code_of_its_own, kinds, limit_of}
use Rattle.pc_deck.specs.Refusal.{of_kind}
use Rattle.pc_deck.specs.Text.{deck_rows, record_of, records_of, settled}
use Rattle.pc_deck.specs.inside.Text.{first_record}
use Rattle.pc_deck.specs.Within.{IsUpTo, IsWithinLimits}
use Rattle.pc_deck.proofs.FaultlessLemmas.{Begins, IsInOrder, IsSound}
use Rattle.pc_deck.proofs.KindLemmas.{is_planned}
use Rattle.pc_deck.proofs.LengthLemmas.{one-card}
use Rattle.pc_deck.proofs.RowsLemmas.{enumerate_from-append, of_kind-all}
use Rattle.pc_deck.proofs.WrittenLemmas.{IsWritten, settled-within, written-settled}

-- a record of a card, whatever its kind
abbrev IsSoundRow : List (List ℕ) → Type 0
IsSoundRow fields = (kind : Kind) × IsSound kind fields

sound_cards : (kind : Kind) → is_planned kind ≡ true → (cards : List (CardOf kind)) → All (IsWritten kind) cards → All IsSoundRow (map (record_of kind) cards)
sound_cards kind planned [] all = All-nil IsSoundRow
sound_cards kind planned (card ∷ cards) all =
    let written = All-head (IsWritten kind) card cards all in
    All-cons IsSoundRow (record_of kind card) (map (record_of kind) cards) (kind, record { planned = planned; named = refl; whole = written.whole; fit = written.fit })
    (sound_cards kind planned cards (All-tail (IsWritten kind) card cards all))

-- these kinds are some of a plan
abbrev ArePlanned : List Kind → Type 0
ArePlanned [] = Unit {0}
ArePlanned (kind ∷ rest) = (is_planned kind ≡ true) × ArePlanned rest

kinds-planned : ArePlanned kinds
kinds-planned = (refl, (refl, (refl, (refl, (refl, (refl, (refl, (refl, (refl, (refl, (refl, (refl, (refl, (refl, tt))))))))))))))

sound_rows : (deck : Deck) → ((kind : Kind) → All (IsWritten kind) (list_of deck kind)) → (some : List Kind) → ArePlanned some → All IsSoundRow (flat_map (records_of deck) some)
sound_rows deck written [] planned = All-nil IsSoundRow
sound_rows deck written (kind ∷ rest) planned =
    All-append IsSoundRow (records_of deck kind) (flat_map (records_of deck) rest) (sound_cards kind planned.0 (list_of deck kind) (written kind)) (sound_rows deck written rest planned.1)

-- what holds of records holds of them with their numbers
with_numbers : (P : List (List ℕ) → Type 0) (row : ℕ) (rows : List (List (List ℕ))) → All P rows → All (λ (card : Numbered). P card.1) (enumerate_from row rows)
with_numbers P row [] all = All-nil (λ (card : Numbered). P card.1)
with_numbers P row (fields ∷ rows) all =
    All-cons (λ (card : Numbered). P card.1) (row, fields) (enumerate_from (row + 1) rows) (All-head P fields rows all) (with_numbers P (row + 1) rows (All-tail P fields rows all))

length-enumerate : (row : ℕ) (rows : List (List (List ℕ))) → length (enumerate_from row rows) ≡ length rows
length-enumerate row [] = refl
length-enumerate row (fields ∷ rows) = ap suc (length-enumerate (row + 1) rows)

-- a card's own code is the second field of its record
code_written : (kind : Kind) → has_code_of_its_own kind ≡ true → (card : CardOf kind) → text_at (record_of kind card) 1 ≡ (entry_of kind).code card
code_written Wbs coded card = refl
code_written Event coded card = refl
code_written Act coded card = refl
code_written Task coded card = refl
code_written Acct coded card = refl
code_written Res coded card = refl
code_written kind coded card = absurd (let coded' = coded in cc)

codes_written : (kind : Kind) → has_code_of_its_own kind ≡ true → (row : ℕ) (cards : List (CardOf kind))
    → map (λ (card : Numbered). text_at card.1 1) (enumerate_from row (map (record_of kind) cards)) ≡ map (entry_of kind).code cards
codes_written kind coded row [] = refl
codes_written kind coded row (card ∷ cards) =
    ap (λ code. code ∷ map (λ (c : Numbered). text_at c.1 1) (enumerate_from (row + 1) (map (record_of kind) cards))) (code_written kind coded card)
    ∙ ap (λ codes. (entry_of kind).code card ∷ codes) (codes_written kind coded (row + 1) cards)

-- if the last card is an END card, there is one after each front
last_behind : (first front rest : List Numbered) (last : Numbered) → text_at last.1 0 ≡ word_of End → first ++ last ∷ [] ≡ front ++ rest → 0 < length rest
    → 0 < length (of_kind End rest)
last_behind first [] rest last named is some =
    let test : bytes_eq (text_at last.1 0) (word_of End) ≡ true = (bytes_decides (text_at last.1 0) (word_of End)).1 named in
    let own : length (of_kind End (last ∷ [])) ≡ 1 = ap (λ (b : Bool). length (if b then last ∷ [] else [])) test in
    let whole : length (of_kind End rest) ≡ length (of_kind End first ++ of_kind End (last ∷ [])) =
    ap (λ (all : List Numbered). length (of_kind End all)) (sym is)
    ∙ ap length (filter-append (λ (c : Numbered). bytes_eq (text_at c.1 0) (word_of End)) first (last ∷ [])) in
    omega (arith, own, whole, length-append (of_kind End first) (of_kind End (last ∷ [])))
last_behind [] (other ∷ front) rest last named is some =
    let short : length (last ∷ []) ≡ length (other ∷ (front ++ rest)) = ap length is in
    absurd (omega (arith, short, length-append front rest, some))
last_behind (card ∷ first) (other ∷ front) rest last named is some = last_behind first front rest last named (ap (drop 1) is) some

-- the kinds before END
abbrev before_end : List Kind
before_end = Project ∷ AsOf ∷ Terms ∷ Wbs ∷ Event ∷ Act ∷ Piece ∷ Acct ∷ Charge ∷ ToGo ∷ Status ∷ Res ∷ Load ∷ []

end_last : (deck : Deck)
    → enumerate_from 1 (flat_map (records_of deck) kinds)
    ≡ enumerate_from 1 (flat_map (records_of deck) before_end) ++ (1 + length (flat_map (records_of deck) before_end), record_of End tt) ∷ []
end_last deck =
    ap (enumerate_from 1) (flat_map-append (records_of deck) before_end (End ∷ []))
    ∙ enumerate_from-append 1 (flat_map (records_of deck) before_end) (record_of End tt ∷ [])

module _ (deck : Deck) (limits : IsWithinLimits deck) where
  -- the cards of the text, with their numbers
  abbrev cards : List Numbered
  cards = enumerate_from 1 (deck_rows deck)

  counted : (kind : Kind) → length (of_kind kind cards) ≡ length (list_of (settled deck) kind)
  counted kind =
      ap length (of_kind-all (settled deck) (settled-within deck limits) kind)
      ∙ (length-enumerate (first_record (settled deck) kind) (records_of (settled deck) kind) ∙ length-map (list_of (settled deck) kind) (record_of kind))

  begins : Begins cards
  begins =
      let project = (settled deck).project in
      let written = All-head (IsWritten Project) project [] (written-settled deck limits Project) in
      (refl, ap (λ p. p.version) (written.reads 1))

  -- they are in order
  pub rows-in_order : IsInOrder cards
  rows-in_order = record {
    sound = with_numbers IsSoundRow 1 (deck_rows deck) (sound_rows (settled deck) (written-settled deck limits) kinds kinds-planned);
    once = λ kind once. omega (arith, counted kind, one-card (settled deck) kind once);
    few = λ kind. subst (IsUpTo (limit_of Plan 2 kind)) (sym (counted kind)) (settled-within deck limits kind).few;
    differ = λ kind coded.
        let codes = ap (map (λ (card : Numbered). text_at card.1 1)) (of_kind-all (settled deck) (settled-within deck limits) kind)
        ∙ codes_written kind coded (first_record (settled deck) kind) (list_of (settled deck) kind) in
        subst IsNamedOnce (sym codes) ((settled-within deck limits kind).differ coded);
    begins = begins;
    ends_once = omega (arith, counted End);
    ends = λ front rest is some.
        last_behind (enumerate_from 1 (flat_map (records_of (settled deck)) before_end)) front rest _ refl (sym (end_last (settled deck)) ∙ is) some;
  }
