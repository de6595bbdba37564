-- What `arrows` writes: a deck of the plan that is generated from the tasks, with the same schedules and costs.
use Rattle.std.specs.Prelude.{ℕ, List}
use Rattle.pc_deck.specs.Deck.{Deck}
use Rattle.pc_project.specs.deck_text.Written.{migrated}
use Rattle.pc_project.specs.Figures.{IsProjectOfDeck}
use Rattle.pc_project.specs.Project.{Project}
use Rattle.pc_project.specs.shell.Sides.{Side}
use Rattle.pc_tasks.specs.Drawn.{arrows_deck}
use Rattle.pc_tasks.specs.Text.{KeepsTasks}
use Rattle.pert_cli.specs.Migrate.{TookDeckOf}
use Rattle.pert_cli.specs.Tasks.{IsAcceptedTasks}

-- the deck is an accepted one of tasks, and the output took a deck of the plan that is generated from them. For every
-- length the tasks have a schedule if and only if that deck's project has one, and their least costs are equal
pub record TookArrows {X : Type 0} (out : Side X) (deck : List ℕ) : Type 0 where
  pub tasks : Deck
  pub accepted : IsAcceptedTasks deck tasks
  pub plan : Project
  pub is : IsProjectOfDeck (arrows_deck tasks) plan
  pub given : TookDeckOf out plan
  pub keeps : KeepsTasks tasks (migrated plan)
