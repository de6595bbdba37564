-- Which task comes after which, by the cards of a deck of tasks.
use Rattle.pc_deck.specs.Deck.{Deck, number_among, task_codes}
use Rattle.pc_deck.specs.declared.kinds.after.AfterCard.{AfterCard}
use Rattle.pc_project.specs.declared.placed.AfterRow.{AfterRow}

-- which task comes after which, by their numbers
abbrev pub after_row : Deck → AfterCard → AfterRow
after_row deck after = record { task = number_among (task_codes deck) after.task; before = number_among (task_codes deck) after.before }
