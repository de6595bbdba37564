-- What a deck says, in terms of its cards alone: of each kind the cards of that kind, in their order.
use Rattle.std.specs.Prelude.{◌≡◌, List, map}
use Rattle.pc_faults.specs.declared.kind.Kind.{Kind}
use Rattle.pc_cards.specs.Cards.{Numbered}
use Rattle.pc_deck.specs.Kinds.{CardOf, card_of}
use Rattle.pc_deck.specs.Deck.{Deck, list_of}
use Rattle.pc_deck.specs.Refusal.{of_kind}

-- what the cards of a kind spell
abbrev pub spelled : (kind : Kind) → List Numbered → List (CardOf kind)
spelled kind cards = map (λ card. card_of kind card.0 card.1) (of_kind kind cards)

-- the cards say this deck: its list of each kind is what the cards of that kind spell
abbrev pub Says : List Numbered → Deck → Type 0
Says cards deck = (kind : Kind) → spelled kind cards ≡ list_of deck kind
