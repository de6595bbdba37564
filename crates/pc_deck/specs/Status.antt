-- STATUS,activity,S or F,date
use Rattle.std.specs.Prelude.{ℕ, List, [], ◌∷◌, bytes_eq, codes}
use Rattle.pc_model.specs.Codes.{text_at}
use Rattle.pc_cards.specs.Entry.{Entry, growing, in_both, work_target}
use Rattle.pc_deck.specs.declared.limits.TheConstants.{SMALL_STATUSES}
use Rattle.pc_model.specs.declared.limits.TheConstants.{MAX_STATUSES}
use Rattle.pc_cards.specs.Forms.{day_in}
use Rattle.pc_cards.specs.declared.form.FieldForm.TheVariants as form
use Rattle.pc_deck.specs.declared.kinds.status.StatusCard.{StatusCard}
use Rattle.pc_deck.specs.declared.kinds.CardLists.{CardLists}
use Rattle.pc_deck.specs.Builders.{listed_kind}

-- the card that a record spells
abbrev pub status_card : ℕ → List (List ℕ) → StatusCard
status_card row fields = record {
  row = row;
  activity = text_at fields 1;
  finished = bytes_eq (text_at fields 2) (codes "F");
  day = day_in (text_at fields 3);
}

-- the kind
abbrev pub status_kind : Entry CardLists
status_kind =
    record (listed_kind status_card (λ status. status.row)
    (in_both ((2, form.Code) ∷ (3, form.Letter) ∷ (4, form.Date) ∷ [])) 4
    (λ lists. lists.statuses) (in_both (growing SMALL_STATUSES MAX_STATUSES)))
    { names = λ sort status. record { target = work_target sort; code = status.activity } ∷ [] }
