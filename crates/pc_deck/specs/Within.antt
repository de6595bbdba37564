-- What holds of every deck that was read.
use Rattle.std.specs.Prelude.{◌≡◌, ℕ, ◌≤◌, true, List, length, map, All, Option, Some, None}
use Rattle.std.specs.Str.{IsUtf8}
use Rattle.pc_faults.specs.declared.kind.Kind.{Kind}
use Rattle.pc_model.specs.Codes.{IsNamedOnce}
use Rattle.pc_cards.specs.Forms.{AllFit}
use Rattle.pc_cards.specs.declared.sort.Sort.{Sort}
use Rattle.pc_cards.specs.declared.sort.Sort.TheVariants.{Plan}
use Rattle.pc_deck.specs.Kinds.{CardOf, card_of, entry_of, has_code_of_its_own, limit_of, slots_of}
use Rattle.pc_deck.specs.Deck.{Deck, list_of}

-- the count is within the limit, if there is one
abbrev pub IsUpTo : Option ℕ → ℕ → Type 0
IsUpTo None count = Unit {0}
IsUpTo (Some most) count = count ≤ most

-- the card is one that a record of a deck of the sort spells, whose fields are text (UTF-8) and are what they must be
abbrev pub IsFit : Sort → (kind : Kind) → CardOf kind → Type 0
IsFit sort kind card =
    (row : ℕ) × (fields : List (List ℕ)) × (card ≡ card_of kind row fields) × AllFit (slots_of sort kind) fields × All IsUtf8 fields

-- the cards of a kind are no more than a deck of the sort and version may have, the fields of each are text and what they must
-- be, and no two of them have one code of their own
pub record IsListWithin (sort : Sort) (kind : Kind) (version : ℕ) (cards : List (CardOf kind)) : Type 0 where
  pub few : IsUpTo (limit_of sort version kind) (length cards)
  pub fit : All (IsFit sort kind) cards
  pub differ : has_code_of_its_own kind ≡ true → IsNamedOnce (map (entry_of kind).code cards)

-- the list of each kind is within the limits that a deck of the sort has in the version that may have most; of a kind that
-- the sort has not, there is no card
abbrev pub IsWithin : Sort → Deck → Type 0
IsWithin sort deck = (kind : Kind) → IsListWithin sort kind 2 (list_of deck kind)

-- the same of a plan
abbrev pub IsWithinLimits : Deck → Type 0
IsWithinLimits deck = IsWithin Plan deck
