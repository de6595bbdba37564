-- When arrows can be generated from a deck of tasks.
use Rattle.pc_deck.specs.Deck.{Deck, named_among, task_codes}
use Rattle.std.specs.Prelude.{◌≢◌, ℕ, ◌≤◌, List, ◌∷◌, length, All, IsSome}
use Rattle.pc_deck.specs.declared.kinds.piece.PieceCard.{PieceCard}
use Rattle.pc_deck.specs.declared.kinds.after.AfterCard.{AfterCard}
use Rattle.pc_deck.specs.declared.limits.TheConstants.{MAX_TASKS}

-- the code does not begin with `_` (95), as generated codes do
abbrev pub IsGiven : List ℕ → Type 0
IsGiven code = (rest : List ℕ) → code ≢ 95 ∷ rest

-- both codes of an AFTER card are codes of tasks
pub record IsKnownAfter (deck : Deck) (after : AfterCard) : Type 0 where
  pub task : IsSome (named_among (task_codes deck) after.task)
  pub before : IsSome (named_among (task_codes deck) after.before)

-- the code of a PIECE card is the code of a task
abbrev pub IsKnownPiece : Deck → PieceCard → Type 0
IsKnownPiece deck piece = IsSome (named_among (task_codes deck) piece.activity)

-- the start and the end are two codes, neither of them generated; and each task that a card names exists
pub record CanBeDrawn (deck : Deck) : Type 0 where
  pub few : length deck.tasks ≤ MAX_TASKS
  pub start : IsGiven deck.project.start
  pub end : IsGiven deck.project.end
  pub apart : deck.project.start ≢ deck.project.end
  pub afters : All (IsKnownAfter deck) deck.afters
  pub pieces : All (IsKnownPiece deck) deck.pieces
