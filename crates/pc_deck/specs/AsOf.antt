-- ASOF,date
use Rattle.std.specs.Prelude.{ℕ, List, [], ◌∷◌}
use Rattle.pc_model.specs.Codes.{text_at}
use Rattle.pc_cards.specs.Entry.{Entry, in_both}
use Rattle.pc_cards.specs.Forms.{day_in}
use Rattle.pc_cards.specs.declared.form.FieldForm.TheVariants as form
use Rattle.pc_deck.specs.declared.kinds.as_of.AsOfCard.{AsOfCard}
use Rattle.pc_deck.specs.declared.kinds.CardLists.{CardLists}
use Rattle.pc_deck.specs.Builders.{single_kind}

-- the card that a record spells
abbrev pub as_of_card : ℕ → List (List ℕ) → AsOfCard
as_of_card row fields = record { row = row; day = day_in (text_at fields 1) }

-- the kind
abbrev pub as_of_kind : Entry CardLists
as_of_kind = single_kind as_of_card (λ card. card.row) (in_both ((2, form.Date) ∷ [])) 2 2 (λ lists. lists.as_of)
