-- How long the text of a deck is at most: as many cards of each kind as there may be, each as long as its fields may be.
use Rattle.std.proofs.Common.{◌≡◌, ℕ, ◌+◌, ◌*◌, ◌≤◌, true, List, [], ◌∷◌, ◌++◌, length, length-append, map, flat_map, Option, Some, None, All, refl, ap, suc, arith}
use Rattle.std.proofs.Math.Nat.{mul-le-mul_right, suc-mul}
use Rattle.std.proofs.lemmas.List.Concat.{flat_map-append}
use Rattle.std.proofs.lemmas.List.Elements.{All-head, All-tail}
use Rattle.std.specs.Prelude.{option_to_list}
use Rattle.pc_records.specs.Text.{record_text, records_text}
use Rattle.pc_records.proofs.LengthFacts.{length-record_text, written_field, written_length}
use Rattle.pc_faults.specs.Kinds.{word_of}
use Rattle.pc_faults.specs.declared.kind.Kind.{Kind}
use Rattle.pc_faults.specs.declared.kind.Kind.TheVariants.{Project, AsOf, Terms, End}
use Rattle.pc_cards.specs.declared.sort.Sort.TheVariants.{Plan}
use Rattle.pc_cards.specs.Forms.{Slot, field_numbered}
use Rattle.pc_cards.specs.Limits.{longest_deck}
use Rattle.pc_cards.proofs.RoomLemmas.{length-all_fit, rooms}
use Rattle.pc_deck.specs.Deck.{Deck, list_of}
use Rattle.pc_deck.specs.WrittenKinds.{written_of}
use Rattle.pc_deck.specs.Kinds.{CardOf, kinds, limit_of, slots_of, stands_once}
use Rattle.pc_deck.specs.Text.{deck_text, record_of, records_of, settled}
use Rattle.pc_deck.specs.Within.{IsWithinLimits}
use Rattle.pc_deck.proofs.WrittenLemmas.{IsWritten, settled-within, written-settled}

-- what is written of a card are the fields of its kind
written-fields : (kind : Kind) (card : CardOf kind) → (written_of kind).written card ≡ map (λ (slot : Slot). field_numbered (record_of kind card) slot.0) (slots_of Plan kind)
written-fields Project card = refl
written-fields kind card = refl

-- the word of a kind goes without quotes
length-word : (kind : Kind) → length (written_field (word_of kind)) ≡ length (word_of kind)
length-word Project = refl
length-word kind = refl

-- how many bytes the record of a card of a kind takes at most
abbrev record_room : Kind → ℕ
record_room kind = ((length (word_of kind) + 1) + rooms (slots_of Plan kind)) + 2

length-record : (kind : Kind) (card : CardOf kind) → IsWritten kind card → length (record_text (record_of kind card)) ≤ record_room kind
length-record kind card written =
    let whole = length-record_text (word_of kind) ((written_of kind).written card) in
    let fields = length-all_fit (slots_of Plan kind) (record_of kind card) written.fit in
    let same = ap written_length (written-fields kind card) in
    omega (arith, whole, fields, same, length-word kind)

-- the same of the cards of a kind
length-cards : (kind : Kind) (cards : List (CardOf kind)) → All (IsWritten kind) cards → length (records_text (map (record_of kind) cards)) ≤ length cards * record_room kind
length-cards kind [] all = omega arith
length-cards kind (card ∷ cards) all =
    let here = length-record kind card (All-head (IsWritten kind) card cards all) in
    let rest = length-cards kind cards (All-tail (IsWritten kind) card cards all) in
    by (record_room kind) here rest
  where
    by : (room : ℕ) → length (record_text (record_of kind card)) ≤ room → length (records_text (map (record_of kind) cards)) ≤ length cards * room
        → length (record_text (record_of kind card) ++ records_text (map (record_of kind) cards)) ≤ suc (length cards) * room
    by room here rest = omega (arith, length-append (record_text (record_of kind card)) (records_text (map (record_of kind) cards)), suc-mul (length cards) room)

-- how many cards of a kind there are at most
abbrev most_of : Option ℕ → ℕ
most_of None = 1
most_of (Some most) = most

length-option_to_list : {C : Type 0} (card : Option C) → length (option_to_list card) ≤ 1
length-option_to_list None = omega arith
length-option_to_list (Some card) = omega arith

few-cards : (deck : Deck) → IsWithinLimits deck → (kind : Kind) → length (list_of deck kind) ≤ most_of (limit_of Plan 2 kind)
few-cards deck limits Project = omega arith
few-cards deck limits AsOf = length-option_to_list deck.as_of
few-cards deck limits Terms = length-option_to_list deck.terms
few-cards deck limits End = omega arith
few-cards deck limits kind = (limits kind).few

-- at most one card of a kind that occurs once
pub one-card : (deck : Deck) (kind : Kind) → stands_once kind ≡ true → length (list_of deck kind) ≤ 1
one-card deck Project once = omega arith
one-card deck AsOf once = length-option_to_list deck.as_of
one-card deck Terms once = length-option_to_list deck.terms
one-card deck kind once = absurd (let once' = once in cc)

-- how many bytes the cards of some kinds take at most
abbrev most_bytes : List Kind → ℕ
most_bytes [] = 0
most_bytes (kind ∷ rest) = most_of (limit_of Plan 2 kind) * record_room kind + most_bytes rest

length-kinds : (deck : Deck) → IsWithinLimits deck → ((kind : Kind) → All (IsWritten kind) (list_of deck kind)) → (some : List Kind)
    → length (records_text (flat_map (records_of deck) some)) ≤ most_bytes some
length-kinds deck limits written [] = omega arith
length-kinds deck limits written (kind ∷ rest) =
    let cards = length-cards kind (list_of deck kind) (written kind) in
    let more = length-kinds deck limits written rest in
    let both = ap length (flat_map-append record_text (records_of deck kind) (flat_map (records_of deck) rest)) in
    let few = mul-le-mul_right (record_room kind) (few-cards deck limits kind) in
    omega (arith, cards, more, both, few, length-append (records_text (records_of deck kind)) (records_text (flat_map (records_of deck) rest)))

-- some 60 million bytes
all_fit : most_bytes kinds ≤ longest_deck
all_fit = omega arith

-- the text of a deck within the limits is no longer than a deck may be
pub length-deck_text : (deck : Deck) → IsWithinLimits deck → length (deck_text deck) ≤ longest_deck
length-deck_text deck limits =
    let short = length-kinds (settled deck) (settled-within deck limits) (written-settled deck limits) kinds in
    let room = all_fit in
    by (most_bytes kinds) short room
  where
    by : (most : ℕ) → length (deck_text deck) ≤ most → most ≤ longest_deck → length (deck_text deck) ≤ longest_deck
    by most short room = omega (arith, short, room)
