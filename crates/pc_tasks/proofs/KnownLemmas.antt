-- Of a deck of tasks without faults of single cards, arrows can be drawn, and its items are within their range.
use Rattle.std.proofs.Common.{ℕ, ◌<◌, length, get_or, refl, inr, arith}
use Rattle.pc_cards.specs.declared.sort.Sort.TheVariants.{Tasks}
use Rattle.pc_deck.specs.Deck.{Deck}
use Rattle.pc_deck.specs.Misfit.{HasNoMisfit}
use Rattle.pc_deck.specs.Within.{IsWithin}
use Rattle.pc_deck.specs.declared.kinds.after.AfterCard.{AfterCard}
use Rattle.pc_deck.specs.declared.kinds.piece.PieceCard.{PieceCard}
use Rattle.pc_deck.proofs.MisfitLaws.{all_named, at_afters, at_items, at_pieces, at_project, no_fault_of}
use Rattle.pc_faults.specs.Faults as told
use Rattle.pc_faults.specs.declared.kind.Kind.TheVariants.{End}
use Rattle.pc_project.specs.Project.{rows_of}
use Rattle.pc_project.proofs.FitLaws.{items-in_range}
use Rattle.pc_wbs.specs.Climb.{AreInRange}
use Rattle.pc_tasks.specs.Known.{CanBeDrawn, IsKnownAfter, IsKnownPiece}
use Rattle.pc_tasks.proofs.WithinLemmas.{ends-given, few-tasks, starts-given}

module _ (deck : Deck) (none : HasNoMisfit Tasks deck) where
  known_after : (k : ℕ) (d : AfterCard) → k < length deck.afters → IsKnownAfter deck (get_or deck.afters k d)
  known_after k d inside =
      let (task, (before, _)) = all_named Tasks deck none at_afters End (omega arith) k d inside in
      record { task = task; before = before }

  known_piece : (k : ℕ) (d : PieceCard) → k < length deck.pieces → IsKnownPiece deck (get_or deck.pieces k d)
  known_piece k d inside = (all_named Tasks deck none at_pieces End (omega arith) k d inside).0

  pub can_be_drawn : IsWithin Tasks deck → CanBeDrawn deck
  can_be_drawn within = record {
    few = few-tasks deck within;
    start = starts-given deck within;
    end = ends-given deck within;
    apart = λ same. no_fault_of Tasks deck none at_project End (omega arith) (told.one_event deck.project.row deck.project.start) (0, deck.project, omega arith, refl, inr (same, refl));
    afters = known_after;
    pieces = known_piece;
  }

  pub rows-in_range : AreInRange (rows_of deck)
  rows-in_range = items-in_range deck (all_named Tasks deck none at_items End (omega arith))
