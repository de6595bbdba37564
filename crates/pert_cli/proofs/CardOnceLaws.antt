-- The first of the faults F2 to F12 of a deck is one, with one text.
use Rattle.std.proofs.Common.{◌≡◌, ◌≢◌, ℕ, ◌+◌, ◌≤◌, ◌==◌, Bool, true, false, List, [], ◌∷◌, ◌++◌, length, Option, Some, unwrap_or, if◌then◌else◌, ◌⊎◌, inl, inr, refl, sym, ap, ◌∙◌, arith}
use Rattle.std.specs.Str.{is_utf8}
use Rattle.pc_records.specs.Deck.{deck_records}
use Rattle.pc_model.specs.Codes.{text_at}
use Rattle.pc_cards.specs.Cards.{Numbered, cards_from, deck_cards, is_card}
use Rattle.pc_cards.specs.Findings.{width_wanted}
use Rattle.pc_cards.specs.Forms.{Slot, first_misshapen, first_over_limit}
use Rattle.pc_cards.specs.declared.form.FieldForm.TheVariants.{Code}
use Rattle.pc_cards.specs.declared.sort.Sort.{Sort}
use Rattle.pc_deck.specs.Judged.{Seen}
use Rattle.pc_deck.specs.Kinds.{least_width_of, slots_of, width_of}
use Rattle.pc_deck.specs.Refusal as has
use Rattle.pc_deck.specs.Refusal.{HasCardFault, HasFault, HasFaultFrom, HasFaultWhere, IsRefusalAs, kind_named, seen_among}
use Rattle.pc_deck.proofs.CardFaultLemmas.{row_of-card}
use Rattle.pc_faults.specs.Faults as fault
use Rattle.pc_faults.specs.declared.fault.Fault.{Fault}
use Rattle.pc_faults.specs.declared.kind.Kind.{Kind}
use Rattle.pc_faults.specs.declared.kind.Kind.TheVariants.{Project}
use Rattle.pert_cli.proofs.FirstOnceLaws.{AreToldByPlace, by_number, first_once, told_so}

-- ---- one card

-- a slot that was found
abbrev slot_or : Option Slot → Slot
slot_or found = unwrap_or found (0, Code)

-- the faults of a card that names this kind, by their numbers
abbrev card_fault : Seen → Numbered → Option Kind → ℕ → Fault
card_fault seen card named n =
    let kind : Kind = unwrap_or named Project in
    if n == 3 then fault.first_not_project card.0
    else if n == 4 then fault.unknown_kind card.0
    else if n == 5 then fault.second_card card.0 kind
    else if n == 6 then fault.wrong_fields card.0 kind (length card.1) (width_wanted (least_width_of kind) (width_of kind) card.1)
    else if n == 7 then fault.misshapen card.0 (slot_or (first_misshapen (slots_of seen.sort kind) card.1)).0
    else if n == 8 then fault.over_limit card.0 (slot_or (first_over_limit (slots_of seen.sort kind) card.1)).0
    else if n == 9 then fault.repeated_code card.0 (text_at card.1 1)
    else if n == 10 then fault.too_many card.0 kind (seen.count kind)
    else fault.behind_end card.0

module _ (seen : Seen) (card : Numbered) where
  abbrev told_at : ℕ → Fault
  told_at n = card_fault seen card (kind_named seen.sort card) n

  -- with the kind that is named
  with_kind : (n : ℕ) (kind : Kind) → kind_named seen.sort card ≡ Some kind → card_fault seen card (Some kind) n ≡ told_at n
  with_kind n kind named = ap (λ (o : Option Kind). card_fault seen card o n) (sym named)

  told_of : (found : Fault) → HasCardFault seen card found → found ≡ told_at found.number
  told_of found (has.not_project first other is) = told_so told_at found _ is refl
  told_of found (has.unknown_kind none is) = told_so told_at found _ is refl
  told_of found (has.second_card kind named once some is) = told_so told_at found _ is (with_kind 5 kind named)
  told_of found (has.wrong_fields kind named part is) = told_so told_at found _ is (with_kind 6 kind named)
  told_of found (has.wrong_shape kind slot named whole shape is) =
      told_so told_at found _ is (ap (λ (o : Option Slot). fault.misshapen card.0 (slot_or o).0) (sym shape) ∙ with_kind 7 kind named)
  told_of found (has.over_limit kind slot named whole shapes over is) =
      told_so told_at found _ is (ap (λ (o : Option Slot). fault.over_limit card.0 (slot_or o).0) (sym over) ∙ with_kind 8 kind named)
  told_of found (has.repeated_code kind named whole shapes among is) = told_so told_at found _ is refl
  told_of found (has.one_too_many kind limit named few full is) =
      told_so told_at found _ is (ap (λ (n : ℕ). fault.too_many card.0 kind n) (sym full) ∙ with_kind 10 kind named)
  told_of found (has.behind_end kind named ended is) = told_so told_at found _ is refl

  -- none of them is F12
  not_at_end : (found : Fault) → HasCardFault seen card found → found.number ≢ 12
  not_at_end found (has.not_project first other is) last = omega (arith, ap (λ (f : Fault). f.number) is, last)
  not_at_end found (has.unknown_kind none is) last = omega (arith, ap (λ (f : Fault). f.number) is, last)
  not_at_end found (has.second_card kind named once some is) last = omega (arith, ap (λ (f : Fault). f.number) is, last)
  not_at_end found (has.wrong_fields kind named part is) last = omega (arith, ap (λ (f : Fault). f.number) is, last)
  not_at_end found (has.wrong_shape kind slot named whole shape is) last = omega (arith, ap (λ (f : Fault). f.number) is, last)
  not_at_end found (has.over_limit kind slot named whole shapes over is) last = omega (arith, ap (λ (f : Fault). f.number) is, last)
  not_at_end found (has.repeated_code kind named whole shapes among is) last = omega (arith, ap (λ (f : Fault). f.number) is, last)
  not_at_end found (has.one_too_many kind limit named few full is) last = omega (arith, ap (λ (f : Fault). f.number) is, last)
  not_at_end found (has.behind_end kind named ended is) last = omega (arith, ap (λ (f : Fault). f.number) is, last)

-- ---- cards whose records rise

-- the records of the cards rise from n on
abbrev pub Rises : ℕ → List Numbered → Type 0
Rises n [] = Unit {0}
Rises n (card ∷ cards) = (n ≤ card.0) × Rises (card.0 + 1) cards

pub rises_lower : (n m : ℕ) (cards : List Numbered) → n ≤ m → Rises m cards → Rises n cards
rises_lower n m [] few h = tt
rises_lower n m (card ∷ cards) few h = (omega (arith, few, h.0), h.1)

rises_from : (n : ℕ) (records : List (List (List ℕ))) → Rises n (cards_from n records)
rises_from n [] = tt
rises_from n (fields ∷ records) = by_card (is_card (n, fields)) (rises_from (n + 1) records)
  where
    by_card : (test : Bool) → Rises (n + 1) (cards_from (n + 1) records) → Rises n (if test then (n, fields) ∷ cards_from (n + 1) records else cards_from (n + 1) records)
    by_card true rest = (omega arith, rest)
    by_card false rest = rises_lower n (n + 1) (cards_from (n + 1) records) (omega arith) rest

-- those of a deck do
pub deck_rises : (bytes : List ℕ) → Rises 1 (deck_cards bytes)
deck_rises bytes = rises_from 1 (deck_records bytes)

-- a fault of cards comes after those before them, except F12
later : (sort : Sort) (before : List Numbered) (end n : ℕ) (cards : List Numbered) → Rises n cards → (f : Fault) → HasFaultFrom sort before end cards f → (n ≤ f.row) ⊎ (f.number ≡ 12)
later sort before end n [] rising f h = inr (ap (λ (g : Fault). g.number) h.1)
later sort before end n (card ∷ cards) rising f (inl here) = inl (omega (arith, rising.0, row_of-card (seen_among sort before) card f here))
later sort before end n (card ∷ cards) rising f (inr behind) =
    elim (later sort (before ++ card ∷ []) end (card.0 + 1) cards rising.1 f behind) [ inl far ↦ inl (omega (arith, rising.0, far)) | inr last ↦ inr last ]

-- so it is none of the card before them
apart : (sort : Sort) (before : List Numbered) (end : ℕ) (card : Numbered) (cards : List Numbered) → Rises (card.0 + 1) cards → (f g : Fault) → HasCardFault (seen_among sort before) card f
    → HasFaultFrom sort (before ++ card ∷ []) end cards g → f.row ≡ g.row → f.number ≡ g.number → ⊥
apart sort before end card cards rising f g here behind row number =
    elim (later sort (before ++ card ∷ []) end (card.0 + 1) cards rising g behind) [
      | inl far ↦ omega (arith, far, row, row_of-card (seen_among sort before) card f here)
      | inr last ↦ not_at_end (seen_among sort before) card f here (number ∙ last)
    ]

cards_told : (sort : Sort) (before : List Numbered) (end n : ℕ) (cards : List Numbered) → Rises n cards → AreToldByPlace (HasFaultFrom sort before end cards)
cards_told sort before end n [] rising f g x y row number = x.1 ∙ sym y.1
cards_told sort before end n (card ∷ cards) rising f g (inl x) (inl y) row number =
    let seen = seen_among sort before in by_number (told_at seen card) f g (told_of seen card f x) (told_of seen card g y) number
cards_told sort before end n (card ∷ cards) rising f g (inl x) (inr y) row number = absurd (apart sort before end card cards rising.1 f g x y row number)
cards_told sort before end n (card ∷ cards) rising f g (inr x) (inl y) row number = absurd (apart sort before end card cards rising.1 g f y x (sym row) (sym number))
cards_told sort before end n (card ∷ cards) rising f g (inr x) (inr y) row number = cards_told sort (before ++ card ∷ []) end (card.0 + 1) cards rising.1 f g x y row number

told_where : (sort : Sort) (utf8 : Bool) (bytes : List ℕ) → AreToldByPlace (HasFaultWhere sort utf8 bytes)
told_where sort true bytes f g x y row number = cards_told sort [] (length (deck_records bytes) + 1) 1 (deck_cards bytes) (deck_rises bytes) f g x y row number
told_where sort false bytes f g x y row number = x ∙ sym y

-- the refusal of cards is one fault
pub refusal_once : (sort : Sort) (bytes : List ℕ) (f g : Fault) → IsRefusalAs sort bytes f → IsRefusalAs sort bytes g → f ≡ g
refusal_once sort bytes f g x y = first_once (HasFault sort bytes) (told_where sort (is_utf8 bytes) bytes) f g x y
