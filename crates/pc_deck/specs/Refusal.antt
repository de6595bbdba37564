-- The faults of a deck: which it has, and which is the first.
use Rattle.std.specs.Prelude.{◌≡◌, ◌≢◌, ℕ, ◌+◌, ◌<◌, ◌⊎◌, Bool, true, false, not, List, [], ◌∷◌, ◌++◌, length, map, filter, Option, Some, None, if◌then◌else◌, bytes_eq}
use Rattle.std.specs.Str.{is_utf8}
use Rattle.pc_records.specs.Deck.{deck_records}
use Rattle.pc_model.specs.Codes.{text_at}
use Rattle.pc_faults.specs.Kinds.{word_of}
use Rattle.pc_faults.specs.Faults as fault
use Rattle.pc_faults.specs.First.{IsFirstFault}
use Rattle.pc_faults.specs.declared.kind.Kind.{Kind}
use Rattle.pc_faults.specs.declared.kind.Kind.TheVariants.{Project, End}
use Rattle.pc_faults.specs.declared.fault.Fault.{Fault}
use Rattle.pc_deck.specs.Kinds.{kind_of, has_code_of_its_own, least_width_of, limit_of, slots_of, stands_once, width_of}
use Rattle.pc_cards.specs.Forms.{Slot, first_misshapen, first_over_limit, is_whole}
use Rattle.pc_deck.specs.Project.{version_in}
use Rattle.pc_cards.specs.Cards.{Numbered, deck_cards}
use Rattle.pc_cards.specs.Named.{is_among}
use Rattle.pc_cards.specs.Findings.{width_wanted}
use Rattle.pc_cards.specs.declared.sort.Sort.{Sort}
use Rattle.pc_cards.specs.declared.sort.Sort.TheVariants.{Plan}
use Rattle.pc_deck.specs.Judged.{Seen}

-- the kind that a card of a deck of a sort names in its first field
abbrev pub kind_named : Sort → Numbered → Option Kind
kind_named sort card = kind_of sort (text_at card.1 0)

-- the cards of a kind, among cards
abbrev pub of_kind : Kind → List Numbered → List Numbered
of_kind kind cards = filter (λ card. bytes_eq (text_at card.1 0) (word_of kind)) cards

-- the codes that the cards of a kind have of their own
abbrev pub own_codes : Kind → List Numbered → List (List ℕ)
own_codes kind cards = if has_code_of_its_own kind then map (λ card. text_at card.1 1) (of_kind kind cards) else []

-- whether there are no cards
abbrev pub are_none : List Numbered → Bool
are_none [] = true
are_none (card ∷ cards) = false

-- the version that the first of some PROJECT cards spells; 1 where there is none
abbrev pub version_said : List Numbered → ℕ
version_said [] = 1
version_said (card ∷ cards) = version_in (text_at card.1 8)

-- what counts of the cards before one in a deck of a sort
abbrev pub seen_among : Sort → List Numbered → Seen
seen_among sort cards = record {
  sort = sort;
  is_first = are_none cards;
  version = version_said (of_kind Project cards);
  count = λ kind. length (of_kind kind cards);
  codes = λ kind. own_codes kind cards;
  has_ended = not (are_none (of_kind End cards));
}

-- a card of a kind has as many fields as it may have
abbrev pub is_whole_as : Kind → List (List ℕ) → Bool
is_whole_as kind fields = is_whole (least_width_of kind) (width_of kind) fields

-- the faults of a card that comes after the cards that were seen, a case for each
pub data HasCardFault (seen : Seen) (card : Numbered) (found : Fault) : Type 0 where
  -- F3: the first card is not PROJECT
  not_project : seen.is_first ≡ true → kind_named seen.sort card ≢ Some Project → found ≡ fault.first_not_project card.0 → HasCardFault seen card found
  -- F4: the first field names no kind that the sort has
  unknown_kind : kind_named seen.sort card ≡ None → found ≡ fault.unknown_kind card.0 → HasCardFault seen card found
  -- F5: a second card of a kind that occurs once
  second_card : (kind : Kind) → kind_named seen.sort card ≡ Some kind → stands_once kind ≡ true → 0 < seen.count kind
      → found ≡ fault.second_card card.0 kind → HasCardFault seen card found
  -- F6: too few fields, or a further field that is not empty
  wrong_fields : (kind : Kind) → kind_named seen.sort card ≡ Some kind → is_whole_as kind card.1 ≡ false
      → found ≡ fault.wrong_fields card.0 kind (length card.1) (width_wanted (least_width_of kind) (width_of kind) card.1) → HasCardFault seen card found
  -- F7: a field of a wrong shape
  wrong_shape : (kind : Kind) (slot : Slot) → kind_named seen.sort card ≡ Some kind → is_whole_as kind card.1 ≡ true
      → first_misshapen (slots_of seen.sort kind) card.1 ≡ Some slot
      → found ≡ fault.misshapen card.0 slot.0 → HasCardFault seen card found
  -- F8: a field over its limit, if every shape is right
  over_limit : (kind : Kind) (slot : Slot) → kind_named seen.sort card ≡ Some kind → is_whole_as kind card.1 ≡ true
      → first_misshapen (slots_of seen.sort kind) card.1 ≡ None → first_over_limit (slots_of seen.sort kind) card.1 ≡ Some slot
      → found ≡ fault.over_limit card.0 slot.0 → HasCardFault seen card found
  -- F9: a code that an earlier card of the kind has, if every shape is right
  repeated_code : (kind : Kind) → kind_named seen.sort card ≡ Some kind → is_whole_as kind card.1 ≡ true
      → first_misshapen (slots_of seen.sort kind) card.1 ≡ None → is_among (text_at card.1 1) (seen.codes kind) ≡ true
      → found ≡ fault.repeated_code card.0 (text_at card.1 1) → HasCardFault seen card found
  -- F10: the first card past the limit of its kind
  one_too_many : (kind : Kind) (limit : ℕ) → kind_named seen.sort card ≡ Some kind → limit_of seen.sort seen.version kind ≡ Some limit → seen.count kind ≡ limit
      → found ≡ fault.too_many card.0 kind limit → HasCardFault seen card found
  -- F11: a card after an END card
  behind_end : (kind : Kind) → kind_named seen.sort card ≡ Some kind → seen.has_ended ≡ true → found ≡ fault.behind_end card.0
      → HasCardFault seen card found

-- the faults of cards of a deck of a sort that come after others: those of each card, and F12 if no END card came; `end` is one more
-- than the number of the last record
abbrev pub HasFaultFrom : Sort → List Numbered → ℕ → List Numbered → Fault → Type 0
HasFaultFrom sort before end [] found = ((seen_among sort before).has_ended ≡ false) × (found ≡ fault.no_end end)
HasFaultFrom sort before end (card ∷ cards) found =
    HasCardFault (seen_among sort before) card found ⊎ HasFaultFrom sort (before ++ card ∷ []) end cards found

-- the faults of a deck that is UTF-8 or not
abbrev pub HasFaultWhere : Sort → Bool → List ℕ → Fault → Type 0
HasFaultWhere sort true bytes found = HasFaultFrom sort [] (length (deck_records bytes) + 1) (deck_cards bytes) found
HasFaultWhere sort false bytes found = found ≡ fault.not_utf8

-- the faults of a deck of a sort: F2 if it is not UTF-8, and otherwise those of its cards
abbrev pub HasFault : Sort → List ℕ → Fault → Type 0
HasFault sort bytes found = HasFaultWhere sort (is_utf8 bytes) bytes found

-- why the cards of a deck of a sort are refused: its first fault
abbrev pub IsRefusalAs : Sort → List ℕ → Fault → Type 0
IsRefusalAs sort bytes found = IsFirstFault (HasFault sort bytes) found

-- the same of a plan
abbrev pub IsCardRefusal : List ℕ → Fault → Type 0
IsCardRefusal bytes found = IsRefusalAs Plan bytes found
