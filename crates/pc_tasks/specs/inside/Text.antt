-- What the project and the text of the arrows of a deck of tasks are.
-- Here is what no clause of a top call and no law reaches.
use Rattle.std.specs.Prelude.{ℕ, List}
use Rattle.pc_deck.specs.Deck.{Deck}
use Rattle.pc_project.specs.deck_text.Written.{IsDeckText}
use Rattle.pc_project.specs.Project.{Project}
use Rattle.pc_tasks.specs.Text.{IsDrawnProject}

-- the text is that of the plan that is drawn of the tasks
pub record IsArrowsText (deck : Deck) (text : List ℕ) : Type 0 where
  pub project : Project
  pub drawn : IsDrawnProject deck project
  pub written : IsDeckText project text
