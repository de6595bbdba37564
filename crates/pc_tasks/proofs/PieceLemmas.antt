-- The pieces of the costs are those of the tasks.
use Rattle.std.proofs.Common.{◌≡◌, ℕ, ◌+◌, ◌<◌, List, [], ◌∷◌, ◌++◌, length, map, get_or, Option, Some, None, refl, ◌∙◌, ap, arith}
use Rattle.std.specs.Prelude.{All, IsSome, unwrap_or}
use Rattle.std.proofs.lemmas.List.{length-map, map-append}
use Rattle.std.proofs.lemmas.Bool.{false≢true}
use Rattle.std.proofs.lemmas.List.Elements.{All-head, All-tail, All-map}
use Rattle.pc_model.specs.declared.PieceRow.{PieceRow}
use Rattle.pc_deck.specs.Deck.{Deck, act_codes, named_among, number_among, task_codes}
use Rattle.pc_deck.specs.declared.kinds.act.ActCard.{ActCard}
use Rattle.pc_deck.specs.declared.kinds.piece.PieceCard.{PieceCard}
use Rattle.pc_project.specs.Project.{piece_of, pieces_in}
use Rattle.pc_deck.specs.declared.kinds.task.TaskCard.{TaskCard}
use Rattle.pc_tasks.specs.Drawn.{arrows_deck, drawn_links, task_acts}
use Rattle.pc_tasks.specs.Known.{CanBeDrawn, IsKnownPiece}
use Rattle.pc_tasks.specs.Lists.{task_piece, task_pieces}
use Rattle.pc_project.proofs.NumberLaws.{has_number}
use Rattle.pc_tasks.proofs.PlaceLemmas.{found-before}

abbrev code_of : ActCard → List ℕ
code_of act = act.code

of_tasks : (i : ℕ) (tasks : List TaskCard) → map code_of (task_acts i tasks) ≡ map (λ task. task.code) tasks
of_tasks i [] = refl
of_tasks i (task ∷ tasks) = ap (λ rest. task.code ∷ rest) (of_tasks (i + 1) tasks)

-- the codes of the activities: first those of the tasks
pub acts-are : (deck : Deck) → act_codes (arrows_deck deck) ≡ task_codes deck ++ map code_of (drawn_links deck)
acts-are deck =
    map-append code_of (task_acts 0 deck.tasks) (drawn_links deck)
    ∙ ap (λ front. front ++ map code_of (drawn_links deck)) (of_tasks 0 deck.tasks)

-- a task is found among the activities at its own place
pub task-named : (deck : Deck) (code : List ℕ) → IsSome (named_among (task_codes deck) code) → named_among (act_codes (arrows_deck deck)) code ≡ named_among (task_codes deck) code
task-named deck code known =
    ap (λ codes. named_among codes code) (acts-are deck) ∙ found-before code (task_codes deck) (map code_of (drawn_links deck)) known

-- the value for what is not found does not matter for what is found
default : (found : Option ℕ) (a b : ℕ) → IsSome found → unwrap_or found a ≡ unwrap_or found b
default (Some i) a b known = refl
default None a b known = absurd (false≢true known)

module _ (deck : Deck) where
  task-number : (code : List ℕ) → IsSome (named_among (task_codes deck) code) → number_among (act_codes (arrows_deck deck)) code ≡ number_among (task_codes deck) code
  task-number code known =
      ap (λ found. unwrap_or found (length (act_codes (arrows_deck deck)))) (task-named deck code known)
      ∙ default (named_among (task_codes deck) code) (length (act_codes (arrows_deck deck))) (length (task_codes deck)) known

  of_pieces : (pieces : List PieceCard) → All (IsKnownPiece deck) pieces → map (piece_of (arrows_deck deck)) pieces ≡ map (task_piece deck) pieces
  of_pieces [] known = refl
  of_pieces (piece ∷ pieces) known =
      let row : ℕ → PieceRow = λ a. record { activity = a; units = piece.units; slope = piece.slope } in
      ap (λ a. row a ∷ map (piece_of (arrows_deck deck)) pieces) (task-number piece.activity (All-head (IsKnownPiece deck) piece pieces known))
      ∙ ap (λ rest. task_piece deck piece ∷ rest) (of_pieces pieces (All-tail (IsKnownPiece deck) piece pieces known))

  pub pieces-are : CanBeDrawn deck → pieces_in (arrows_deck deck) ≡ task_pieces deck
  pieces-are can = of_pieces deck.pieces can.pieces

  -- each of a task
  pub pieces-within : CanBeDrawn deck → All (λ (piece : PieceRow). piece.activity < length deck.tasks) (task_pieces deck)
  pieces-within can =
      All-map (λ (piece : PieceRow). piece.activity < length deck.tasks) (task_piece deck) deck.pieces
      (λ k d inside. omega (
        arith,
        (has_number (task_codes deck) (get_or deck.pieces k d).activity (can.pieces k d inside)).within,
        length-map deck.tasks (λ task. task.code),
      ))
