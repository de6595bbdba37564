-- The plan that is made of lists, or generated from a deck of tasks.
-- Here is what no clause of a top call and no law reaches.
use Rattle.std.specs.Prelude.{[], map}
use Rattle.pc_model.specs.Codes.{IsNamedOnce}
use Rattle.pc_deck.specs.Deck.{Deck}
use Rattle.pc_deck.specs.declared.kinds.CardLists.{CardLists}
use Rattle.pc_deck.specs.declared.kinds.project.ProjectCard.{ProjectCard}
use Rattle.pc_deck.specs.declared.made.PlanLists.{PlanLists}

-- the lists of a plan that has these
abbrev pub lists_of : PlanLists → CardLists
lists_of plan = record {
  as_of = plan.as_of;
  terms = plan.terms;
  items = plan.items.now;
  events = plan.events.now;
  acts = plan.acts.now;
  tasks = [];
  afters = [];
  pieces = plan.pieces.now;
  accounts = plan.accounts.now;
  charges = plan.charges.now;
  togos = plan.togos.now;
  statuses = plan.statuses.now;
  resources = plan.resources.now;
  loads = plan.loads.now;
}

-- the plan that has this PROJECT card and these lists
abbrev pub plan_of : ProjectCard → PlanLists → Deck
plan_of project plan = record { project = project; lists = lists_of plan }

-- no two cards of a kind have one code of their own
pub record AreNamedOnce (plan : PlanLists) : Type 0 where
  pub items : IsNamedOnce (map (λ item. item.code) plan.items.now)
  pub events : IsNamedOnce (map (λ event. event.code) plan.events.now)
  pub acts : IsNamedOnce (map (λ act. act.code) plan.acts.now)
  pub accounts : IsNamedOnce (map (λ account. account.code) plan.accounts.now)
  pub resources : IsNamedOnce (map (λ resource. resource.code) plan.resources.now)
