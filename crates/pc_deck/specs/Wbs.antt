-- WBS,code,parent,title; the top item has no parent
use Rattle.std.specs.Prelude.{ℕ, List, [], ◌∷◌, Option, Some, None}
use Rattle.pc_model.specs.Codes.{text_at}
use Rattle.pc_text.specs.Code.{code_of}
use Rattle.pc_cards.specs.Entry.{Entry, Reference, by_sort, up_to}
use Rattle.pc_model.specs.declared.limits.TheConstants.{MAX_ITEMS}
use Rattle.pc_deck.specs.declared.limits.TheConstants.{MAX_TASK_ITEMS}
use Rattle.pc_cards.specs.Forms.{own_code}
use Rattle.pc_cards.specs.declared.form.FieldForm.TheVariants as form
use Rattle.pc_deck.specs.declared.kinds.wbs.ItemCard.{ItemCard}
use Rattle.pc_deck.specs.declared.kinds.CardLists.{CardLists}
use Rattle.pc_faults.specs.declared.target.Target.TheVariants.{Item}
use Rattle.pc_deck.specs.Builders.{named_kind}

-- the card that a record spells
abbrev pub item_card : ℕ → List (List ℕ) → ItemCard
item_card row fields = record { row = row; code = text_at fields 1; parent = code_of (text_at fields 2); title = text_at fields 3 }

-- what an item with this parent names
abbrev pub names_parent : Option (List ℕ) → List Reference
names_parent None = []
names_parent (Some code) = record { target = Item; code = code } ∷ []

-- the kind
abbrev pub item_kind : Entry CardLists
item_kind =
    record (named_kind item_card (λ item. item.row) (λ item. item.code)
    (λ sort. (2, own_code sort) ∷ (3, form.CodeOrNone) ∷ (4, form.Title) ∷ []) 4
    (λ lists. lists.items) (by_sort (up_to MAX_ITEMS) (up_to MAX_TASK_ITEMS)))
    { names = λ sort item. names_parent item.parent }
