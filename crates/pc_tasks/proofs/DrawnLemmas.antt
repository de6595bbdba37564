-- The schedules of the deck that is drawn, and what they cost, are those of the tasks.
use Rattle.std.proofs.Common.{◌≡◌, ℕ, ◌<◌, [], length, get_or, sym, ap, subst, ◌∙◌, arith}
use Rattle.std.specs.Prelude.{All}
use Rattle.std.proofs.lemmas.List.{get_or-map, length-map}
use Rattle.pc_model.specs.declared.PieceRow.{PieceRow}
use Rattle.pc_tasks.specs.network.Arrows.{arrows}
use Rattle.pc_tasks.specs.network.Tasks.{AreAmong, after_at}
use Rattle.pc_project.specs.Project.{network_of}
use Rattle.pc_deck.specs.declared.kinds.after.AfterCard.{AfterCard}
use Rattle.pc_deck.specs.Deck.{Deck}
use Rattle.pc_tasks.specs.Drawn.{arrows_deck}
use Rattle.pc_tasks.specs.Known.{CanBeDrawn}
use Rattle.pc_project.specs.After.{after_row}
use Rattle.pc_tasks.specs.Lists.{afters_in, task_pieces, task_term, task_terms}
use Rattle.pc_tasks.proofs.NetworkLemmas.{network-is, task_number-within}
use Rattle.pc_tasks.proofs.PieceLemmas.{pieces-within}

module _ (deck : Deck) (can : CanBeDrawn deck) where
  pub tasks-terms : length (task_terms deck) ≡ length deck.tasks
  tasks-terms = length-map deck.tasks task_term

  -- the network, by the terms of the tasks
  pub network-arrows : network_of (arrows_deck deck) ≡ arrows (length (task_terms deck)) (afters_in deck)
  network-arrows = network-is deck can ∙ ap (λ n. arrows n (afters_in deck)) (sym tasks-terms)

  row_at : (j : ℕ) (d : AfterCard) → j < length (afters_in deck) → after_at (afters_in deck) j ≡ after_row deck (get_or deck.afters j d)
  row_at j d inside = get_or-map (after_row deck) deck.afters j d (record { task = 0; before = 0 }) (omega (arith, inside, length-map deck.afters (after_row deck)))

  abbrev no_after : AfterCard
  no_after = record { row = 0; task = []; before = [] }

  -- the tasks that AFTER cards name are tasks
  pub afters-among : AreAmong (length (task_terms deck)) (afters_in deck)
  afters-among = record {
    task = λ j inside.
        let known = can.afters j no_after (omega (arith, inside, length-map deck.afters (after_row deck))) in
        omega (arith, (task_number-within deck (get_or deck.afters j no_after) known).0, ap (λ row. row.task) (row_at j no_after inside), tasks-terms);
    before = λ j inside.
        let known = can.afters j no_after (omega (arith, inside, length-map deck.afters (after_row deck))) in
        omega (arith, (task_number-within deck (get_or deck.afters j no_after) known).1, ap (λ row. row.before) (row_at j no_after inside), tasks-terms);
  }

  pub pieces-known : All (λ (piece : PieceRow). piece.activity < length (task_terms deck)) (task_pieces deck)
  pieces-known = subst (λ n. All (λ (piece : PieceRow). piece.activity < n) (task_pieces deck)) (sym tasks-terms) (pieces-within deck can)
