-- ACT,code,from,to,item,opt,likely,pess,normal,crash,cost,slope,title
use Rattle.std.specs.Prelude.{◌≡◌, ℕ, List, [], ◌∷◌}
use Rattle.pc_model.specs.Codes.{text_at}
use Rattle.pc_model.specs.declared.limits.TheConstants.{MAX_SLOPE, MAX_ACTIVITIES}
use Rattle.pc_cards.specs.Entry.{Entry, by_sort, flaws_in_plans, growing, in_both, in_plans}
use Rattle.pc_deck.specs.declared.limits.TheConstants.{SMALL_ACTIVITIES}
use Rattle.pc_cards.specs.Forms.{duration, money, number_in}
use Rattle.pc_cards.specs.declared.form.FieldForm.TheVariants as form
use Rattle.pc_deck.specs.declared.kinds.act.ActCard.{ActCard}
use Rattle.pc_deck.specs.declared.kinds.CardLists.{CardLists}
use Rattle.pc_faults.specs.declared.target.Target.TheVariants.{Event, Item}
use Rattle.pc_deck.specs.Builders.{named_kind}
use Rattle.pc_deck.specs.Durations.{HasDurationFault}
use Rattle.pc_faults.specs.Faults.{one_event}
use Rattle.pc_faults.specs.declared.fault.Fault.{Fault}

-- the card that a record spells
abbrev pub act_card : ℕ → List (List ℕ) → ActCard
act_card row fields = record {
  row = row;
  code = text_at fields 1;
  from = text_at fields 2;
  to = text_at fields 3;
  item = text_at fields 4;
  opt = number_in (text_at fields 5);
  likely = number_in (text_at fields 6);
  pess = number_in (text_at fields 7);
  normal = number_in (text_at fields 8);
  crash = number_in (text_at fields 9);
  cost = number_in (text_at fields 10);
  slope = number_in (text_at fields 11);
  title = text_at fields 12;
}

-- the faults that an activity has by itself
pub data HasActFlaw (card : ActCard) (fault : Fault) : Type 0 where
  -- F17: it begins where it ends
  same_events : card.from ≡ card.to → fault ≡ one_event card.row card.from → HasActFlaw card fault
  -- F18, F19: its estimates or its durations are out of order
  durations : HasDurationFault card.row card.opt card.likely card.pess card.normal card.crash fault → HasActFlaw card fault

-- the kind
abbrev pub act_kind : Entry CardLists
act_kind =
    record (named_kind act_card (λ act. act.row) (λ act. act.code)
    (in_both (
    (2, form.Code) ∷ (3, form.Code) ∷ (4, form.Code) ∷ (5, form.Code)
    ∷ (6, duration) ∷ (7, duration) ∷ (8, duration) ∷ (9, duration) ∷ (10, duration)
    ∷ (11, money) ∷ (12, form.Number 0 MAX_SLOPE) ∷ (13, form.Title) ∷ [])) 13
    (λ lists. lists.acts) (in_plans (growing SMALL_ACTIVITIES MAX_ACTIVITIES))) {
      names = λ sort act. by_sort (record { target = Event; code = act.from } ∷ record { target = Event; code = act.to } ∷ record { target = Item; code = act.item } ∷ []) [] sort;
      flaws = flaws_in_plans HasActFlaw;
    }
