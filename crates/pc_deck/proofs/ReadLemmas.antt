-- Reading one card after the other.
use Rattle.std.proofs.Common.{◌≡◌, ℕ, ◌+◌, Bool, true, false, List, [], ◌∷◌, Result, Ok, All, if◌then◌else◌, sym, ap, ◌∙◌, subst}
use Rattle.std.specs.Str.{IsUtf8, is_utf8}
use Rattle.std.proofs.lemmas.Str.{IsUtf8-from_is_utf8}
use Rattle.std.proofs.lemmas.List.Elements.{All-cons, All-head, All-nil, All-tail}
use Rattle.pc_records.specs.Deck.{deck_records}
use Rattle.pc_records.proofs.Utf8Facts.{deck_records-text}
use Rattle.pc_cards.specs.Cards.{Numbered, cards_from, deck_cards, is_card}
use Rattle.pc_cards.specs.inside.Cards.{CardsLeft, Follows}
use Rattle.pc_deck.specs.inside.Judged.{judge}
use Rattle.pc_deck.specs.inside.Reading.{KeepsCard, and_then, read_from, seen_in, with_card}
use Rattle.pc_faults.specs.declared.kind.Kind.{Kind}
use Rattle.pc_faults.specs.declared.fault.Fault.{Fault}
use Rattle.pc_deck.specs.declared.draft.Draft.{Draft}
use Rattle.pc_cards.specs.declared.rows.NextCard.{NextCard}
use Rattle.pc_cards.specs.declared.rows.NextCard.TheVariants.{Card}
use Rattle.pc_deck.specs.inside.Within.{IsDraftWithin}
use Rattle.pc_deck.proofs.WithinLemmas.{next_within}

-- a card without a fault leads on to the rest
pub read_from-card : (draft : Draft) (kind : Kind) (row : ℕ) (fields : List (List ℕ)) (rest : List Numbered) (end : ℕ) →
    judge (seen_in draft) row fields ≡ Ok kind →
    read_from draft end ((row, fields) ∷ rest) ≡ read_from (with_card draft kind row fields) end rest
read_from-card draft kind row fields rest end judged =
    ap (λ (r : Result Kind Fault). and_then r (λ k. read_from (with_card draft k row fields) end rest)) judged

-- what is left to read after a card that was added
pub read_from-added : (draft added : Draft) (kind : Kind) (found : NextCard) (row : ℕ) (fields : List (List ℕ)) (old new : CardsLeft) →
    found ≡ Card row → Follows found old new fields → judge (seen_in draft) row fields ≡ Ok kind → added ≡ with_card draft kind row fields →
    read_from added new.end new.cards ≡ read_from draft old.end old.cards
read_from-added draft added kind found row fields old new is follows judged same =
    let both = subst (λ (next : NextCard). Follows next old new fields) is follows in
    ap (λ (d : Draft). read_from d new.end new.cards) same
    ∙ (sym (read_from-card draft kind row fields new.cards new.end judged)
    ∙ (ap (λ (e : ℕ). read_from draft e ((row, fields) ∷ new.cards)) (sym both.1)
    ∙ ap (λ (cards : List Numbered). read_from draft old.end cards) (sym both.0)))

-- the same of a card that was taken
pub read_from-kept : (draft added : Draft) (found : NextCard) (row : ℕ) (fields : List (List ℕ)) (old new : CardsLeft) → found ≡ Card row →
    Follows found old new fields → KeepsCard draft row fields added → read_from added new.end new.cards ≡ read_from draft old.end old.cards
read_from-kept draft added found row fields old new is follows (kind, (judged, same)) = read_from-added draft added kind found row fields old new is follows judged same

-- a card that was taken leaves the sort of the deck
pub sort-kept : (draft added : Draft) (row : ℕ) (fields : List (List ℕ)) → KeepsCard draft row fields added → added.sort ≡ draft.sort
sort-kept draft added row fields (kind, (judged, same)) = ap (λ (d : Draft). d.sort) same

-- a card that was taken keeps the cards within the limits
pub within-kept : (draft added : Draft) (row : ℕ) (fields : List (List ℕ)) → KeepsCard draft row fields added → All IsUtf8 fields → IsDraftWithin draft → IsDraftWithin added
within-kept draft added row fields (kind, (judged, same)) text old = subst IsDraftWithin (sym same) (next_within draft kind row fields text old judged)

-- the fields of a card are text
abbrev pub IsTextCard : Numbered → Type 0
IsTextCard card = All IsUtf8 card.1

cards-text : (row : ℕ) (records : List (List (List ℕ))) → All (All IsUtf8) records → All IsTextCard (cards_from row records)
cards-text row [] all = All-nil IsTextCard
cards-text row (record_ ∷ records) all =
    by_card (is_card (row, record_)) (cards-text (row + 1) records (All-tail (All IsUtf8) record_ records all))
  where
    by_card : (test : Bool) → All IsTextCard (cards_from (row + 1) records) → All IsTextCard (if test then (row, record_) ∷ cards_from (row + 1) records else cards_from (row + 1) records)
    by_card true rest = All-cons IsTextCard (row, record_) (cards_from (row + 1) records) (All-head (All IsUtf8) record_ records all) rest
    by_card false rest = rest

-- the fields of the cards of a deck that is text are text
pub deck_cards-text : (bytes : List ℕ) → is_utf8 bytes ≡ true → All IsTextCard (deck_cards bytes)
deck_cards-text bytes utf8 = cards-text 1 (deck_records bytes) (deck_records-text bytes (IsUtf8-from_is_utf8 bytes utf8))

-- the next card is text, and so are those after it
pub next-text : (found : NextCard) (row : ℕ) (fields : List (List ℕ)) (old new : CardsLeft) → found ≡ Card row → Follows found old new fields →
    All IsTextCard old.cards → IsTextCard (row, fields) × All IsTextCard new.cards
next-text found row fields old new is follows all =
    let both = subst (λ (next : NextCard). Follows next old new fields) is follows in
    let these = subst (All IsTextCard) both.0 all in
    (All-head IsTextCard (row, fields) new.cards these, All-tail IsTextCard (row, fields) new.cards these)
