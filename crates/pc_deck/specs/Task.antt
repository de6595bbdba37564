-- TASK,code,item,opt,likely,pess,normal,crash,cost,slope,title
use Rattle.std.specs.Prelude.{ℕ, List, [], ◌∷◌}
use Rattle.pc_model.specs.Codes.{text_at}
use Rattle.pc_model.specs.declared.limits.TheConstants.{MAX_SLOPE}
use Rattle.pc_cards.specs.Entry.{Entry, by_sort, flaws_in_tasks, in_both, in_tasks, up_to}
use Rattle.pc_deck.specs.declared.limits.TheConstants.{MAX_TASKS}
use Rattle.pc_cards.specs.Forms.{duration, money, number_in}
use Rattle.pc_cards.specs.declared.form.FieldForm.TheVariants as form
use Rattle.pc_deck.specs.declared.kinds.task.TaskCard.{TaskCard}
use Rattle.pc_deck.specs.declared.kinds.CardLists.{CardLists}
use Rattle.pc_faults.specs.declared.target.Target.TheVariants.{Item}
use Rattle.pc_deck.specs.Builders.{named_kind}
use Rattle.pc_deck.specs.Durations.{HasDurationFault}

-- the card that a record spells
abbrev pub task_card : ℕ → List (List ℕ) → TaskCard
task_card row fields = record {
  row = row;
  code = text_at fields 1;
  item = text_at fields 2;
  opt = number_in (text_at fields 3);
  likely = number_in (text_at fields 4);
  pess = number_in (text_at fields 5);
  normal = number_in (text_at fields 6);
  crash = number_in (text_at fields 7);
  cost = number_in (text_at fields 8);
  slope = number_in (text_at fields 9);
  title = text_at fields 10;
}

-- the kind
abbrev pub task_kind : Entry CardLists
task_kind =
    record (named_kind task_card (λ task. task.row) (λ task. task.code)
    (in_both (
    (2, form.GivenCode) ∷ (3, form.Code)
    ∷ (4, duration) ∷ (5, duration) ∷ (6, duration) ∷ (7, duration) ∷ (8, duration)
    ∷ (9, money) ∷ (10, form.Number 0 MAX_SLOPE) ∷ (11, form.Title) ∷ [])) 11
    (λ lists. lists.tasks) (in_tasks (up_to MAX_TASKS))) {
      names = λ sort task. by_sort [] (record { target = Item; code = task.item } ∷ []) sort;
      flaws = flaws_in_tasks (λ task. HasDurationFault task.row task.opt task.likely task.pess task.normal task.crash);
    }
