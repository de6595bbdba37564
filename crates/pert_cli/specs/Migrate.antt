-- What `migrate` writes: a deck of the same project, whose own `migrate` text is itself.
use Rattle.std.specs.Prelude.{◌≡◌, ℕ, List}
use Rattle.pc_project.specs.deck_text.Same.{SayTheSame}
use Rattle.pc_project.specs.deck_text.Written.{IsDeckText, migrated}
use Rattle.pc_project.specs.Project.{Project}
use Rattle.pc_project.specs.shell.Sides.{Side, Took}
use Rattle.pc_project.specs.shell.Verdict.{IsProjectOf}

-- the output took a text that is an accepted deck, of version 2: its project is this one, except for the deck that it has, and the two
-- decks say the same; and whatever `migrate` writes of the text is the text again
pub record TookDeckOf {X : Type 0} (out : Side X) (project : Project) : Type 0 where
  pub text : List ℕ
  pub took : Took out text
  pub same : IsProjectOf text (migrated project)
  pub says : SayTheSame project.deck (migrated project).deck
  pub again : (other : Project) (next : List ℕ) → IsProjectOf text other → IsDeckText other next → next ≡ text

-- the deck is accepted, and the output took a deck of its project
pub record TookSameProject {X : Type 0} (out : Side X) (deck : List ℕ) : Type 0 where
  pub project : Project
  pub accepted : IsProjectOf deck project
  pub given : TookDeckOf out project
