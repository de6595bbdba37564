-- The titles of a deck.
use Rattle.std.specs.Prelude.{All}
use Rattle.std.specs.Str.{IsUtf8}
use Rattle.pc_deck.specs.Deck.{Deck}

-- each title is text (UTF-8)
pub record AreTitlesText (deck : Deck) : Type 0 where
  pub project : IsUtf8 deck.project.title
  pub items : All (λ item. IsUtf8 item.title) deck.items
  pub events : All (λ event. IsUtf8 event.title) deck.events
  pub acts : All (λ act. IsUtf8 act.title) deck.acts
  pub tasks : All (λ task. IsUtf8 task.title) deck.tasks
  pub accounts : All (λ account. IsUtf8 account.title) deck.accounts
  pub resources : All (λ resource. IsUtf8 resource.title) deck.resources
