-- One piece of a deck: what it names and how large it is, and its faults by the run of its activity.
use Rattle.std.proofs.Common.{◌≡◌, ℕ, ◌<◌, ◌≤◌, List, [], Option, length, map, take, get_or, sym, ◌∙◌, ap, subst, ◌==◌, arith}
use Rattle.std.specs.Prelude.{slice_index, slice_index_or}
use Rattle.std.proofs.lemmas.List.{get_or-map, get_or_read, length-map, length-take-le}
use Rattle.std.proofs.lemmas.List.Sums.{count_by-le-length, length-filter}
use Rattle.pc_model.specs.declared.PieceRow.{PieceRow}
use Rattle.pc_model.specs.declared.Term.{Term}
use Rattle.pc_model.specs.declared.limits.TheConstants.{MAX_DURATION}
use Rattle.pc_model.specs.Pieces.{slope_in, units_of}
use Rattle.pc_model.specs.Schedule.{term_at}
use Rattle.pc_crash.specs.Priced.{piece_at}
use Rattle.pc_cards.specs.declared.sort.Sort.TheVariants.{Plan}
use Rattle.pc_deck.specs.Deck.{Deck}
use Rattle.pc_deck.specs.Within.{IsWithinLimits}
use Rattle.pc_deck.specs.declared.kinds.piece.PieceCard.{PieceCard}
use Rattle.pc_deck.proofs.NumberLemmas.{acts-within, pieces-within}
use Rattle.pc_deck.specs.Misfit.{HasNoMisfit}
use Rattle.pc_faults.specs.declared.kind.Kind.TheVariants.{Piece}
use Rattle.pc_faults.specs.declared.fault.Fault.{Fault}
use Rattle.pc_project.specs.declared.pieces.Run.{Run}
use Rattle.pc_faults.specs.inside.First.{IsFirstIn}
use Rattle.pc_project.specs.PieceFaults.{HasFlaw, HasPieceFaultAt, pieces_before}
use Rattle.pc_project.specs.Project.{piece_of, pieces_in, term_of, terms_in}
use Rattle.pc_project.proofs.RunLaws.{AreRuns, IsRunOf}
use Rattle.pc_project.specs.inside.Runs.{HasFlawBehind, IsNextPiece, run_at}
use Rattle.pc_project.proofs.FitLaws.{no_act, piece_activity-within}
use Rattle.pc_project.proofs.PlannedLaws.{no_piece, piece_there}

module _ (deck : Deck) (none : HasNoMisfit Plan deck) (limits : IsWithinLimits deck) (i : ℕ) (inside : i < length deck.pieces) where
  abbrev piece : PieceRow
  piece = piece_at (pieces_in deck) i

  -- its activity is one of the deck
  pub piece-known : piece.activity < length deck.acts
  piece-known = omega (arith, ap (λ (p : PieceRow). p.activity) (piece_there deck i inside), piece_activity-within deck none i no_piece inside)

  -- its units are within their limit
  pub piece-short : piece.units ≤ MAX_DURATION
  piece-short = omega (arith, ap (λ (p : PieceRow). p.units) (piece_there deck i inside), (pieces-within deck limits i no_piece inside).units)

  module _ (runs : List Run) (are : AreRuns (terms_in deck) (pieces_in deck) i runs) where
    abbrev run : Run
    run = run_at runs piece.activity

    activity_known : piece.activity < length (terms_in deck)
    activity_known = omega (arith, length-map deck.acts term_of, piece-known)

    run-is : IsRunOf (term_at (terms_in deck) piece.activity) (pieces_before (pieces_in deck) i) run
    run-is = are.each piece.activity activity_known

    -- no more pieces were read than there are before it
    count-small : run.count ≤ i
    count-small =
        omega (
          arith,
          run-is.same_count,
          length-filter (λ (p : PieceRow). p.activity == piece.activity) (take i (pieces_in deck)),
          count_by-le-length (λ (p : PieceRow). p.activity == piece.activity) (take i (pieces_in deck)),
          length-take-le i (pieces_in deck) (omega (arith, length-map deck.pieces (piece_of deck))),
        )

    -- it can be taken in
    pub next-is : IsNextPiece (terms_in deck) runs piece
    next-is =
        let term = get_or-map term_of deck.acts piece.activity no_act (record { normal = 0; crash = 0; cost = 0; slope = 0 }) piece-known in
        let crash = (acts-within deck limits piece.activity no_act piece-known).crash in
        record {
          one_each = are.one_each;
          known = activity_known;
          count = omega (arith, (limits Piece).few, count-small);
          units = omega (arith, ap (λ (t : Term). t.crash) term, crash, (limits Piece).few, are.small piece.activity activity_known, piece-short);
        }

    -- the faults that follow from the run are those of the piece
    pub flaw-is : (card : PieceCard) (found : Option Fault) → card ≡ get_or deck.pieces i card →
        IsFirstIn (HasFlawBehind (terms_in deck) runs piece card.row card.activity) found → IsFirstIn (HasPieceFaultAt deck i) found
    flaw-is card found card_is first =
        let term = term_at (terms_in deck) piece.activity in
        let there = get_or_read deck.pieces i card inside card_is no_piece in
        let at : ℕ = slice_index (map (λ (c : PieceCard). c.row) deck.pieces) i in
        let name : List ℕ = slice_index_or (map (λ (c : PieceCard). c.activity) deck.pieces) i [] in
        let row : card.row ≡ at = ap (λ (c : PieceCard). c.row) there ∙ sym (get_or-map (λ (c : PieceCard). c.row) deck.pieces i no_piece 0 inside) in
        let code : card.activity ≡ name = ap (λ (c : PieceCard). c.activity) there ∙ sym (get_or-map (λ (c : PieceCard). c.activity) deck.pieces i no_piece [] inside) in
        let before = pieces_before (pieces_in deck) i in
        let slope = slope_in term before (length before) in
        subst (λ n. IsFirstIn (HasFlaw term n slope (units_of before) piece at name) found) run-is.same_count
        (subst (λ s. IsFirstIn (HasFlaw term run.count s (units_of before) piece at name) found) run-is.same_slope
        (subst (λ u. IsFirstIn (HasFlaw term run.count run.slope u piece at name) found) run-is.same_units
        (subst (λ r. IsFirstIn (HasFlaw term run.count run.slope run.units piece r name) found) row
        (subst (λ k. IsFirstIn (HasFlaw term run.count run.slope run.units piece card.row k) found) code first))))
