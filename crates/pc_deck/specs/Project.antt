-- PROJECT,code,start,end,date,days of a unit,directed end,title,version
use Rattle.std.specs.Prelude.{◌≡◌, ℕ, List, [], ◌∷◌, unwrap_or, None}
use Rattle.pc_model.specs.Codes.{text_at}
use Rattle.pc_text.specs.Number.{number_of}
use Rattle.pc_model.specs.declared.limits.TheConstants.{MAX_DIRECTED, MAX_UNIT_DAYS}
use Rattle.pc_cards.specs.Entry.{Entry, by_sort}
use Rattle.pc_cards.specs.Forms.{number_in, day_in, own_code}
use Rattle.pc_cards.specs.declared.form.FieldForm.TheVariants as form
use Rattle.pc_deck.specs.declared.kinds.project.ProjectCard.{ProjectCard}
use Rattle.pc_deck.specs.declared.kinds.CardLists.{CardLists}
use Rattle.pc_faults.specs.declared.target.Target.TheVariants.{Event}
use Rattle.pc_deck.specs.Builders.{single_kind}
use Rattle.pc_faults.specs.Faults.{one_event}
use Rattle.pc_faults.specs.declared.fault.Fault.{Fault}

-- the version that a field spells; where it is empty, 1
abbrev pub version_in : List ℕ → ℕ
version_in field = unwrap_or (number_of field) 1

-- the card that a record spells
abbrev pub project_card : ℕ → List (List ℕ) → ProjectCard
project_card row fields = record {
  row = row;
  code = text_at fields 1;
  start = text_at fields 2;
  end = text_at fields 3;
  start_day = day_in (text_at fields 4);
  unit_days = number_in (text_at fields 5);
  directed = number_of (text_at fields 6);
  title = text_at fields 7;
  version = version_in (text_at fields 8);
}

-- the fault that the card has by itself, F17: the start is the end
abbrev pub HasProjectFlaw : ProjectCard → Fault → Type 0
HasProjectFlaw card fault = (card.start ≡ card.end) × (fault ≡ one_event card.row card.start)

-- the kind; the last field of its card may be missing, and the card is not in the lists; its start and its end are names only in a plan
abbrev pub project_kind : Entry CardLists
project_kind =
    record (single_kind project_card (λ project. project.row)
    (λ sort.
    (2, form.Code) ∷ (3, own_code sort) ∷ (4, own_code sort) ∷ (5, form.Date) ∷ (6, form.Number 1 MAX_UNIT_DAYS)
    ∷ (7, form.NumberOrNone 0 MAX_DIRECTED) ∷ (8, form.Title) ∷ (9, form.NumberOrNone 1 2) ∷ []) 8 9
    (λ lists. None)) {
      names = λ sort project. by_sort (record { target = Event; code = project.start } ∷ record { target = Event; code = project.end } ∷ []) [] sort;
      flaws = λ sort. HasProjectFlaw;
    }
