-- What the project and the text of the arrows of a deck of tasks are.
use Rattle.std.specs.Prelude.{◌↔◌, ℕ}
use Rattle.pc_model.specs.Cost.{IsLeastCost}
use Rattle.pc_model.specs.Pieces.{knees_of}
use Rattle.pc_model.specs.Schedule.{HasSchedule}
use Rattle.pc_tasks.specs.network.Tasks.{HasTaskSchedule, IsLeastTaskCost}
use Rattle.pc_deck.specs.Deck.{Deck}
use Rattle.pc_project.specs.Figures.{IsProjectOfDeck}
use Rattle.pc_project.specs.Project.{Project}
use Rattle.pc_tasks.specs.Drawn.{arrows_deck}
use Rattle.pc_tasks.specs.Lists.{afters_in, task_pieces, task_terms}
use Rattle.pc_tasks.specs.Refusal.{MakesArrows}

-- for every length there is a schedule of the tasks if and only if there is one of the project, and their least costs are the same
pub record KeepsTasks (deck : Deck) (project : Project) : Type 0 where
  pub schedules : (limit : ℕ) → HasTaskSchedule (task_terms deck) (afters_in deck) limit ↔ HasSchedule project.network project.terms limit
  pub costs : (limit cost : ℕ) →
      IsLeastTaskCost (task_terms deck) (knees_of (task_terms deck) (task_pieces deck)) (afters_in deck) limit cost
      ↔ IsLeastCost project.network project.terms (knees_of project.terms project.pieces) limit cost

-- the deck of tasks has no fault; the project is that of the plan generated from it, and keeps the tasks
pub record IsDrawnProject (deck : Deck) (project : Project) : Type 0 where
  pub makes : MakesArrows deck
  pub is : IsProjectOfDeck (arrows_deck deck) project
  pub keeps : KeepsTasks deck project
