-- EVENT,code,title and RES,code,title
use Rattle.std.specs.Prelude.{ℕ, List, [], ◌∷◌}
use Rattle.pc_model.specs.Codes.{text_at}
use Rattle.pc_cards.specs.Entry.{Entry, growing, in_both, in_plans, up_to}
use Rattle.pc_deck.specs.declared.limits.TheConstants.{SMALL_EVENTS}
use Rattle.pc_model.specs.declared.limits.TheConstants.{MAX_EVENTS, MAX_RESOURCES}
use Rattle.pc_cards.specs.declared.form.FieldForm.TheVariants as form
use Rattle.pc_deck.specs.declared.kinds.titled.TitledCard.{TitledCard}
use Rattle.pc_deck.specs.declared.kinds.CardLists.{CardLists}
use Rattle.pc_deck.specs.Builders.{named_kind}

-- the card that a record spells
abbrev pub titled_card : ℕ → List (List ℕ) → TitledCard
titled_card row fields = record { row = row; code = text_at fields 1; title = text_at fields 2 }

-- its fields as they are written
abbrev pub written_titled : TitledCard → List (List ℕ)
written_titled card = card.code ∷ card.title ∷ []

-- the kind EVENT
abbrev pub event_kind : Entry CardLists
event_kind =
    named_kind titled_card (λ card. card.row) (λ card. card.code)
    (in_both ((2, form.Code) ∷ (3, form.Title) ∷ [])) 3
    (λ lists. lists.events) (in_plans (growing SMALL_EVENTS MAX_EVENTS))

-- the kind RES: the same card in a list of its own
abbrev pub resource_kind : Entry CardLists
resource_kind = record event_kind { held = λ lists. lists.resources; limit = in_both (up_to MAX_RESOURCES) }
