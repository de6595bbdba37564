-- When bytes are the deck of some cards.
use Rattle.std.specs.Prelude.{ℕ, List}
use Rattle.pc_cards.specs.Cards.{deck_cards}
use Rattle.pc_cards.specs.declared.sort.Sort.{Sort}
use Rattle.pc_cards.specs.declared.sort.Sort.TheVariants.{Plan}
use Rattle.pc_deck.specs.Deck.{Deck}
use Rattle.pc_deck.specs.Says.{Says}
use Rattle.pc_deck.specs.Faultless.{IsFaultless}

-- the cards among the records of the bytes say this, kind by kind, and have no fault as the cards of a deck of the sort
pub record IsReadAs (sort : Sort) (bytes : List ℕ) (deck : Deck) : Type 0 where
  pub says : Says (deck_cards bytes) deck
  pub faultless : IsFaultless sort bytes

-- the bytes are the plan
abbrev pub IsDeckOf : List ℕ → Deck → Type 0
IsDeckOf bytes deck = IsReadAs Plan bytes deck
