-- The cards of a deck among its records.
-- Here is what no clause of a top call and no law reaches.
use Rattle.std.specs.Prelude.{◌≡◌, ℕ, List, [], ◌∷◌}
use Rattle.pc_cards.specs.declared.rows.NextCard.{NextCard}
use Rattle.pc_cards.specs.declared.rows.NextCard.TheVariants.{Card, End}
use Rattle.pc_cards.specs.Cards.{Numbered}

-- the cards that are left to read, and the number after the last record
pub record CardsLeft : Type 0 where
  pub cards : List Numbered
  pub end : ℕ

-- what comes next: a card with its fields, and then the others; or the end
abbrev pub Follows : NextCard → CardsLeft → CardsLeft → List (List ℕ) → Type 0
Follows (Card row) old new fields = (old.cards ≡ (row, fields) ∷ new.cards) × (old.end ≡ new.end)
Follows (End row) old new fields = (old.cards ≡ []) × (old.end ≡ row)
