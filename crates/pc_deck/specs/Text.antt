-- The text of a deck in its one form: what a deck says is written as cards of version 2, kind by kind.
use Rattle.std.specs.Prelude.{ℕ, ℤ, ◌+◌, ◌&&◌, ◌==◌, List, [], ◌∷◌, length, map, flat_map, Bool, Option, Some, None, unwrap_or, if◌then◌else◌}
use Rattle.pc_records.specs.Text.{records_text}
use Rattle.pc_faults.specs.Kinds.{word_of}
use Rattle.pc_faults.specs.declared.kind.Kind.{Kind}
use Rattle.pc_cards.specs.Named.{numbered_by}
use Rattle.pc_deck.specs.WrittenKinds.{written_of}
use Rattle.pc_deck.specs.Kinds.{CardOf, held_in, is_same, kinds, lists_with, stands_once}
use Rattle.pc_deck.specs.Deck.{Deck, list_of}
use Rattle.pc_deck.specs.declared.kinds.as_of.AsOfCard.{AsOfCard}
use Rattle.pc_deck.specs.declared.kinds.terms.TermsCard.{TermsCard}

-- the ASOF card; where there is none, one with the day on which the project starts
abbrev pub settled_as_of : Option AsOfCard → ℤ → AsOfCard
settled_as_of card start = unwrap_or card (record { row = 0; day = start })

-- the four numbers of the card are 0, as they are where there is no card
abbrev pub says_nothing : TermsCard → Bool
says_nothing terms = terms.overhead == 0 && (terms.target == 0 && (terms.bonus == 0 && terms.penalty == 0))

-- the TERMS card, where it says something
abbrev pub settled_terms : Option TermsCard → Option TermsCard
settled_terms None = None
settled_terms (Some terms) = if says_nothing terms then None else Some terms

-- the same deck in version 2, with an ASOF card, and with a TERMS card only where it says something
abbrev pub settled : Deck → Deck
settled deck = record {
  project = record deck.project { version = 2 };
  lists = record deck.lists { as_of = Some (settled_as_of deck.as_of deck.project.start_day); terms = settled_terms deck.terms };
}

-- the record that a card is written as: the word of its kind, and its fields
abbrev pub record_of : (kind : Kind) → CardOf kind → List (List ℕ)
record_of kind card = word_of kind ∷ (written_of kind).written card

-- the records of the cards of a kind, in card order
abbrev pub records_of : Deck → Kind → List (List (List ℕ))
records_of deck kind = map (record_of kind) (list_of deck kind)

-- the records of a deck: one kind after the other
abbrev pub deck_rows : Deck → List (List (List ℕ))
deck_rows deck = flat_map (records_of (settled deck)) kinds

-- the text of a deck
abbrev pub deck_text : Deck → List ℕ
deck_text deck = records_text (deck_rows deck)

-- the record of the first card of a kind: after the cards of the kinds that come before it
abbrev pub first_from : ℕ → Deck → Kind → List Kind → ℕ
first_from row deck kind [] = row
first_from row deck kind (other ∷ rest) = if is_same other kind then row else first_from (row + length (list_of deck other)) deck kind rest

-- the same cards in the records that they have in the text of the deck
abbrev pub renumbered : Deck → Deck
renumbered deck = record {
  project = record deck.project { row = 1 };
  lists = lists_with (λ kind. numbered_by (stands_once kind) (CardOf kind) (written_of kind).at_row (first_from 1 deck kind kinds) (held_in deck.lists kind));
}
