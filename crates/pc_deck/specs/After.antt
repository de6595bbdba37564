-- AFTER,task,before
use Rattle.std.specs.Prelude.{◌≡◌, ℕ, List, [], ◌∷◌}
use Rattle.pc_model.specs.Codes.{text_at}
use Rattle.pc_cards.specs.Entry.{Entry, by_sort, flaws_in_tasks, in_both, in_tasks, up_to}
use Rattle.pc_deck.specs.declared.limits.TheConstants.{MAX_AFTERS}
use Rattle.pc_cards.specs.declared.form.FieldForm.TheVariants as form
use Rattle.pc_deck.specs.declared.kinds.after.AfterCard.{AfterCard}
use Rattle.pc_deck.specs.declared.kinds.CardLists.{CardLists}
use Rattle.pc_faults.specs.declared.target.Target.TheVariants.{Task}
use Rattle.pc_deck.specs.Builders.{listed_kind}
use Rattle.pc_faults.specs.Faults.{one_event}
use Rattle.pc_faults.specs.declared.fault.Fault.{Fault}

-- the card that a record spells
abbrev pub after_card : ℕ → List (List ℕ) → AfterCard
after_card row fields = record { row = row; task = text_at fields 1; before = text_at fields 2 }

-- the fault that an AFTER card has by itself, F17: the task comes after itself
abbrev pub HasAfterFlaw : AfterCard → Fault → Type 0
HasAfterFlaw card fault = (card.task ≡ card.before) × (fault ≡ one_event card.row card.task)

-- the kind
abbrev pub after_kind : Entry CardLists
after_kind =
    record (listed_kind after_card (λ after. after.row)
    (in_both ((2, form.Code) ∷ (3, form.Code) ∷ [])) 3
    (λ lists. lists.afters) (in_tasks (up_to MAX_AFTERS))) {
      names = λ sort after. by_sort [] (record { target = Task; code = after.task } ∷ record { target = Task; code = after.before } ∷ []) sort;
      flaws = flaws_in_tasks HasAfterFlaw;
    }
