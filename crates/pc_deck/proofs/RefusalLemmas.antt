-- Reading stops at the first fault of a deck, and a deck that is read to its end has none.
use Rattle.std.proofs.Common.{◌≡◌, ℕ, ◌+◌, ◌≤◌, Bool, true, false, List, [], ◌∷◌, ◌++◌, length, Option, Some, None}
use Rattle.std.proofs.Common.{is_none, if◌then◌else◌, Result, Ok, Err, inl, inr, ◌⊎◌, refl, sym, ap, ◌∙◌, subst, arith}
use Rattle.std.specs.Str.{is_utf8}
use Rattle.pc_records.specs.Deck.{deck_records}
use Rattle.pc_cards.specs.declared.sort.Sort.{Sort}
use Rattle.pc_cards.specs.Cards.{Numbered, is_card, cards_from, deck_cards}
use Rattle.pc_deck.specs.Deck.{Deck}
use Rattle.pc_deck.specs.Judged.{Seen}
use Rattle.pc_deck.specs.inside.Judged.{judge}
use Rattle.pc_faults.specs.Faults as faults
use Rattle.pc_faults.specs.First.{IsFirstFault}
use Rattle.pc_deck.specs.inside.Reading.{no_cards, with_card, seen_in, deck_with, closed, closed_with, and_then, read_from, cards_of}
use Rattle.pc_deck.specs.Refusal.{are_none, seen_among, HasCardFault, HasFaultFrom, HasFaultWhere, HasFault, IsRefusalAs}
use Rattle.pc_deck.specs.declared.kinds.project.ProjectCard.{ProjectCard}
use Rattle.pc_faults.specs.declared.kind.Kind.{Kind}
use Rattle.pc_faults.specs.declared.fault.Fault.{Fault as ADeckFault}
use Rattle.pc_deck.specs.declared.draft.Draft.{Draft}
use Rattle.pc_deck.proofs.CardFaultLemmas.{row_of-card, not_faultless, least_of-card, found_of-card}
use Rattle.pc_deck.proofs.SoFarLemmas.{IsSoFar, so_far-none, so_far-more}
use Rattle.pc_deck.proofs.SeenLemmas.{seen}

-- a deck is read where it has no fault, and otherwise its first fault is answered
abbrev IsVerdict : Result Deck ADeckFault → (ADeckFault → Type 0) → Type 0
IsVerdict (Ok deck) Has = (fault : ADeckFault) → Has fault → ⊥
IsVerdict (Err fault) Has = IsFirstFault Has fault

-- the numbers of the cards rise from n on, and stay below `end`
abbrev Rises : ℕ → ℕ → List Numbered → Type 0
Rises n end [] = n ≤ end
Rises n end (card ∷ cards) = (n ≤ card.0) × Rises (card.0 + 1) end cards

lower : (n m end : ℕ) (cards : List Numbered) → n ≤ m → Rises m end cards → Rises n end cards
lower n m end [] few h = omega (arith, few, h)
lower n m end (card ∷ cards) few h = (omega (arith, few, h.0), h.1)

-- the numbers of a deck's cards rise
rises : (n end : ℕ) (records : List (List (List ℕ))) → n + length records ≡ end → Rises n end (cards_from n records)
rises n end [] is = omega (arith, is)
rises n end (record_ ∷ records) is =
    by_card (is_card (n, record_)) (rises (n + 1) end records (omega (arith, is)))
  where
    by_card : (test : Bool) → Rises (n + 1) end (cards_from (n + 1) records) → Rises n end (if test then (n, record_) ∷ cards_from (n + 1) records else cards_from (n + 1) records)
    by_card true rest = (omega arith, rest)
    by_card false rest = lower n (n + 1) end (cards_from (n + 1) records) (omega arith) rest

-- a fault of cards is of no earlier record than the first of them
from_row : (sort : Sort) (before : List Numbered) (n end : ℕ) (cards : List Numbered) (fault : ADeckFault) → Rises n end cards → HasFaultFrom sort before end cards fault → n ≤ fault.row
from_row sort before n end [] fault rising h = subst (λ (row : ℕ). n ≤ row) (sym (ap (λ (f : ADeckFault). f.row) h.1)) rising
from_row sort before n end (card ∷ cards) fault rising (inl here) = subst (λ (row : ℕ). n ≤ row) (sym (row_of-card (seen_among sort before) card fault here)) rising.0
from_row sort before n end (card ∷ cards) fault rising (inr later) =
    let rest = from_row sort (before ++ card ∷ []) (card.0 + 1) end cards fault rising.1 later in omega (arith, rest, rising.0)

-- faults that no card has change no verdict
widened : (read : Result Deck ADeckFault) (Has More : ADeckFault → Type 0) → ((fault : ADeckFault) → More fault → ⊥) → IsVerdict read Has → IsVerdict read (λ fault. More fault ⊎ Has fault)
widened (Ok deck) Has More never h = λ fault has. elim has [ inl more ↦ never fault more | inr is ↦ h fault is ]
widened (Err found) Has More never h = record {
  holds = inr h.holds;
  least = λ fault has. elim has [ inl more ↦ absurd (never fault more) | inr is ↦ h.least fault is ];
}

no_cards_before : (before : List Numbered) → are_none before ≡ true → before ≡ []
no_cards_before [] h = refl
no_cards_before (card ∷ cards) h = absurd (let h' = h in cc)

only_one : (Has : ADeckFault → Type 0) (found : ADeckFault) → Has found → ((fault : ADeckFault) → Has fault → fault ≡ found) → IsFirstFault Has found
only_one Has found holds same = record {
  holds = holds;
  least = λ fault has.
      let is = same fault has in
      inr (sym (ap (λ (f : ADeckFault). f.row) is), subst (λ (n : ℕ). found.number ≤ n) (sym (ap (λ (f : ADeckFault). f.number) is)) (omega arith));
}

-- at the end of the cards
at_end : (draft : Draft) (before : List Numbered) (end : ℕ) → IsSoFar before draft → IsVerdict (closed draft end) (HasFaultFrom draft.sort before end [])
at_end draft before end says = by_project draft.project refl
  where
    same : seen_among draft.sort before ≡ seen_in draft
    same = seen before draft says

    missing : (seen_among draft.sort before).has_ended ≡ false → IsFirstFault (HasFaultFrom draft.sort before end []) (faults.no_end end)
    missing none = only_one (HasFaultFrom draft.sort before end []) (faults.no_end end) (none, refl) (λ fault has. has.1)

    by_end : (project : ProjectCard) (ended : Bool) → draft.has_ended ≡ ended →
        IsVerdict (if ended then Ok (deck_with draft project) else Err (faults.no_end end)) (HasFaultFrom draft.sort before end [])
    by_end project true is = λ fault has.
        let yes : (seen_among draft.sort before).has_ended ≡ true = ap (λ (s : Seen). s.has_ended) same ∙ is in
        let no = has.0 in
        absurd (let apart : true ≡ false = sym yes ∙ no in cc)
    by_end project false is = missing (ap (λ (s : Seen). s.has_ended) same ∙ is)

    by_project : (project : Option ProjectCard) → draft.project ≡ project → IsVerdict (closed_with draft end project) (HasFaultFrom draft.sort before end [])
    by_project None is =
        let nothing = no_cards_before before (ap (λ (s : Seen). s.is_first) same ∙ ap is_none is) in
        missing (ap (λ (cards : List Numbered). (seen_among draft.sort cards).has_ended) nothing)
    by_project (Some project) is = by_end project draft.has_ended refl

-- the reading of cards is a verdict on their faults
verdict : (cards : List Numbered) (draft : Draft) (before : List Numbered) (n end : ℕ) → IsSoFar before draft → Rises n end cards →
    IsVerdict (read_from draft end cards) (HasFaultFrom draft.sort before end cards)
verdict [] draft before n end says rising = at_end draft before end says
verdict (card ∷ cards) draft before n end says rising =
    by_judgement (judge (seen_in draft) card.0 card.1) refl
    (λ kind judged. verdict cards (with_card draft kind card.0 card.1) (before ++ card ∷ []) (card.0 + 1) end (so_far-more before draft kind card says judged) rising.1)
  where
    same : seen_among draft.sort before ≡ seen_in draft
    same = seen before draft says

    by_judgement : (judged : Result Kind ADeckFault) → judge (seen_in draft) card.0 card.1 ≡ judged
        → ((kind : Kind) → judge (seen_in draft) card.0 card.1 ≡ Ok kind →
        IsVerdict (read_from (with_card draft kind card.0 card.1) end cards) (HasFaultFrom draft.sort (before ++ card ∷ []) end cards))
        → IsVerdict (and_then judged (λ kind. read_from (with_card draft kind card.0 card.1) end cards)) (HasFaultFrom draft.sort before end (card ∷ cards))
    by_judgement (Ok kind) is more =
        widened (read_from (with_card draft kind card.0 card.1) end cards) (HasFaultFrom draft.sort (before ++ card ∷ []) end cards) (HasCardFault (seen_among draft.sort before) card)
        (λ fault has. not_faultless (seen_in draft) card fault kind is (subst (λ (s : Seen). HasCardFault s card fault) same has))
        (more kind is)
    by_judgement (Err found) is more =
        let here = found_of-card (seen_in draft) card.0 card.1 found is in
        let row = row_of-card (seen_in draft) card found here in
        record {
          holds = inl (subst (λ (s : Seen). HasCardFault s card found) (sym same) here);
          least = λ fault has. elim has [
            | inl own ↦ inr (least_of-card (seen_in draft) card found fault is (subst (λ (s : Seen). HasCardFault s card fault) same own))
            | inr later ↦ inl (let from = from_row draft.sort (before ++ card ∷ []) (card.0 + 1) end cards fault rising.1 later in omega (arith, row, from))
          ];
        }

-- the reading of a deck's cards is a verdict on their faults
pub cards_of-verdict : (sort : Sort) (bytes : List ℕ) → IsVerdict (cards_of sort bytes) (HasFaultFrom sort [] (length (deck_records bytes) + 1) (deck_cards bytes))
cards_of-verdict sort bytes =
    verdict (deck_cards bytes) (no_cards sort) [] 1 (length (deck_records bytes) + 1) (so_far-none sort) (rises 1 (length (deck_records bytes) + 1) (deck_records bytes) (omega arith))

-- where cards are answered, the deck has no fault
pub none_of-read : (sort : Sort) (bytes : List ℕ) (deck : Deck) → is_utf8 bytes ≡ true → cards_of sort bytes ≡ Ok deck → (fault : ADeckFault) → HasFault sort bytes fault → ⊥
none_of-read sort bytes deck utf8 read = λ fault has.
    let all = subst (λ (r : Result Deck ADeckFault). IsVerdict r (HasFaultFrom sort [] (length (deck_records bytes) + 1) (deck_cards bytes))) read (cards_of-verdict sort bytes) in
    all fault (subst (λ (b : Bool). HasFaultWhere sort b bytes fault) utf8 has)

-- a fault that is answered is the first
pub first_of-read : (sort : Sort) (bytes : List ℕ) (fault : ADeckFault) → is_utf8 bytes ≡ true → cards_of sort bytes ≡ Err fault → IsRefusalAs sort bytes fault
first_of-read sort bytes fault utf8 read =
    let first = subst (λ (r : Result Deck ADeckFault). IsVerdict r (HasFaultFrom sort [] (length (deck_records bytes) + 1) (deck_cards bytes))) read (cards_of-verdict sort bytes) in
    subst (λ (b : Bool). IsFirstFault (HasFaultWhere sort b bytes) fault) (sym utf8) first
