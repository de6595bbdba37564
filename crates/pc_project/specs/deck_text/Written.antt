-- What the text of a project's deck is.
use Rattle.std.specs.Prelude.{◌≡◌, ℕ, ◌≤◌, List, length}
use Rattle.pc_deck.specs.Deck.{Deck}
use Rattle.pc_deck.specs.Limits.{longest_deck}
use Rattle.pc_deck.specs.Read.{IsDeckOf}
use Rattle.pc_deck.specs.Text.{deck_text, renumbered, settled}
use Rattle.pc_project.specs.Figures.{IsProjectOfDeck}
use Rattle.pc_project.specs.Project.{Project}
use Rattle.pc_project.specs.Makes.{MakesProject}
use Rattle.pc_project.specs.deck_text.Same.{SayTheSame}

-- the deck that the text of a deck is: of version 2, with an ASOF card and with a TERMS card where it says something, each card in
-- the record in which it is written
abbrev pub written : Deck → Deck
written deck = renumbered (settled deck)

-- the project of the text of its deck: the same one, but for the deck that it keeps
abbrev pub migrated : Project → Project
migrated project = record project { deck = written project.deck }

-- the text is that of the project's deck: it is not too long, its cards have no fault and make a project, which is the same one
-- but for the numbers of records and the version; the cards say what those of the project's deck say; and the text of the deck
-- that it is, is the same text
pub record IsDeckText (project : Project) (text : List ℕ) : Type 0 where
  pub is : text ≡ deck_text project.deck
  pub short : length text ≤ longest_deck
  pub cards : IsDeckOf text (written project.deck)
  pub makes : MakesProject (written project.deck)
  pub made : IsProjectOfDeck (written project.deck) (migrated project)
  pub same : SayTheSame project.deck (written project.deck)
  pub again : deck_text (written project.deck) ≡ text

-- the text of the deck is accepted: it is not too long, it is read as a deck that says the same, and that makes a project. A project of the
-- deck is that of its text, but for the deck that it keeps
pub record IsKeptByText (deck : Deck) : Type 0 where
  pub short : length (deck_text deck) ≤ longest_deck
  pub cards : IsDeckOf (deck_text deck) (written deck)
  pub makes : MakesProject (written deck)
  pub same : SayTheSame deck (written deck)
  pub made : (project : Project) → IsProjectOfDeck deck project → IsProjectOfDeck (written deck) (migrated project)
