-- The cards of a deck among its records.
use Rattle.std.specs.Prelude.{ℕ, Bool, not, List, filter}
use Rattle.std.specs.List.{enumerate_from}
use Rattle.pc_records.specs.Deck.{deck_records, is_blank}

-- a record with its number
abbrev pub Numbered : Type 0
Numbered = ℕ × List (List ℕ)

-- whether a record is a card: not all of its fields are empty
abbrev pub is_card : Numbered → Bool
is_card numbered = not (is_blank numbered.1)

-- the cards among records, numbered from `row`
abbrev pub cards_from : ℕ → List (List (List ℕ)) → List Numbered
cards_from row records = filter is_card (enumerate_from row records)

-- the cards of a deck with the numbers of their records, which are counted from 1
abbrev pub deck_cards : List ℕ → List Numbered
deck_cards bytes = cards_from 1 (deck_records bytes)
