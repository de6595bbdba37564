-- The records and the codes of cards, by their numbers in card order.
use Rattle.std.specs.Prelude.{ℕ, List, map}
use Rattle.pc_model.specs.Codes.{text_at}
use Rattle.pc_deck.specs.Deck.{Deck}
use Rattle.pc_deck.specs.declared.kinds.wbs.ItemCard.{ItemCard}

-- the codes with these numbers
abbrev pub codes_at : List (List ℕ) → List ℕ → List (List ℕ)
codes_at codes numbers = map (text_at codes) numbers

-- the records and the codes of items, in their order
abbrev pub records_among : List ItemCard → List ℕ
records_among items = map (λ item. item.row) items

abbrev pub codes_among : List ItemCard → List (List ℕ)
codes_among items = map (λ item. item.code) items

-- the records of the items, the events and the activities of a deck, in card order
abbrev pub item_records : Deck → List ℕ
item_records deck = records_among deck.items

abbrev pub event_records : Deck → List ℕ
event_records deck = map (λ event. event.row) deck.events

abbrev pub act_records : Deck → List ℕ
act_records deck = map (λ act. act.row) deck.acts

-- the records of the amounts to go and of the statuses, and the codes of the accounts that the amounts to go name
abbrev pub togo_records : Deck → List ℕ
togo_records deck = map (λ togo. togo.row) deck.togos

abbrev pub togo_codes : Deck → List (List ℕ)
togo_codes deck = map (λ togo. togo.account) deck.togos

abbrev pub status_records : Deck → List ℕ
status_records deck = map (λ status. status.row) deck.statuses
