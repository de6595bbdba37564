-- The tasks of a deck by number: which of them come after which, what they may last and cost, and the pieces of their costs.
use Rattle.std.specs.Prelude.{List, map}
use Rattle.pc_model.specs.declared.Term.{Term}
use Rattle.pc_model.specs.declared.PieceRow.{PieceRow}
use Rattle.pc_project.specs.After.{after_row}
use Rattle.pc_project.specs.declared.placed.AfterRow.{AfterRow}
use Rattle.pc_deck.specs.Deck.{Deck, number_among, task_codes}
use Rattle.pc_deck.specs.declared.kinds.piece.PieceCard.{PieceCard}
use Rattle.pc_deck.specs.declared.kinds.task.TaskCard.{TaskCard}

-- which task comes after which, by their numbers
abbrev pub afters_in : Deck → List AfterRow
afters_in deck = map (after_row deck) deck.afters

-- what a task may last and costs
abbrev pub task_term : TaskCard → Term
task_term task = record { normal = task.normal; crash = task.crash; cost = task.cost; slope = task.slope }

abbrev pub task_terms : Deck → List Term
task_terms deck = map task_term deck.tasks

-- the pieces of the tasks' costs
abbrev pub task_piece : Deck → PieceCard → PieceRow
task_piece deck piece = record { activity = number_among (task_codes deck) piece.activity; units = piece.units; slope = piece.slope }

abbrev pub task_pieces : Deck → List PieceRow
task_pieces deck = map (task_piece deck) deck.pieces
