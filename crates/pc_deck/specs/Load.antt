-- LOAD,activity,resource,quantity
use Rattle.std.specs.Prelude.{ℕ, List, [], ◌∷◌}
use Rattle.pc_model.specs.Codes.{text_at}
use Rattle.pc_model.specs.declared.limits.TheConstants.{MAX_LOADS}
use Rattle.pc_cards.specs.Entry.{Entry, in_both, up_to, work_target}
use Rattle.pc_cards.specs.Forms.{money, number_in}
use Rattle.pc_cards.specs.declared.form.FieldForm.TheVariants as form
use Rattle.pc_deck.specs.declared.kinds.load.LoadCard.{LoadCard}
use Rattle.pc_deck.specs.declared.kinds.CardLists.{CardLists}
use Rattle.pc_faults.specs.declared.target.Target.TheVariants.{Resource}
use Rattle.pc_deck.specs.Builders.{listed_kind}

-- the card that a record spells
abbrev pub load_card : ℕ → List (List ℕ) → LoadCard
load_card row fields = record { row = row; activity = text_at fields 1; resource = text_at fields 2; quantity = number_in (text_at fields 3) }

-- the kind
abbrev pub load_kind : Entry CardLists
load_kind =
    record (listed_kind load_card (λ load. load.row)
    (in_both ((2, form.Code) ∷ (3, form.Code) ∷ (4, money) ∷ [])) 4
    (λ lists. lists.loads) (in_both (up_to MAX_LOADS)))
    { names = λ sort load. record { target = work_target sort; code = load.activity } ∷ record { target = Resource; code = load.resource } ∷ [] }
