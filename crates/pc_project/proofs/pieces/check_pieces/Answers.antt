use Rattle.std.proofs.Common.{◌<◌, length, map, refl, ◌∙◌, ap, subst, arith}
use Rattle.std.proofs.lemmas.List.{length-map}
use Rattle.pc_crash.specs.Priced.{piece_at}
use Rattle.pc_faults.specs.inside.First.{IsFirstIn}
use Rattle.pc_project.specs.PieceFaults.{HasPieceFault, HasPieceFaultAt}
use Rattle.pc_project.specs.Project.{piece_of, pieces_in, term_of, terms_in}
use Rattle.pc_project.specs.inside.Runs.{run_at}
use Rattle.pc_project.proofs.CountLaws.{first_of_none, first_of_all, first_with}
use Rattle.pc_project.proofs.PieceSteps.{flaw-is, next-is, piece-known, piece-short}
use Rattle.pc_project.proofs.RunLaws.{AreRuns-start, AreRuns-more}
use Rattle.pc_project.proofs.pieces.check_pieces.Goals as goal

pub loop-i-init : goal.loop-i-init
loop-i-init c = record {
  runs = AreRuns-start c.args.cards.now.acts (pieces_in c.args.cards.now) c.in_ok-runs.runs.items
      (c.in_ok-runs.ensures ∙ ap (map (λ act. record { count = 0; slope = act.slope; units = 0 })) c.acts-acts.ensures.cards);
  first = first_of_none (HasPieceFaultAt c.args.cards.now);
}

pub take_in-requires : goal.take_in-requires
take_in-requires c =
    let deck = c.args.cards.now in
    let inside : c.loop-i.i < length deck.pieces = omega (arith, c.loop-i-test.true, ap length c.pieces-card-items.ensures.cards) in
    rw (c.acts-acts.ensures.cards, c.requires.numbers) (next-is deck c.requires.faultless c.acts-acts.ensures.within c.loop-i.i inside c.loop-i.runs.items c.loop-i.invariant.runs)

pub loop-i-preserved : goal.loop-i-preserved
loop-i-preserved c =
    let deck = c.args.cards.now in
    let i = c.loop-i.i in
    let inside : i < length deck.pieces = omega (arith, c.loop-i-test.true, ap length c.pieces-card-items.ensures.cards) in
    let limits = c.acts-acts.ensures.within in
    let runs = c.loop-i.runs.items in
    let are = c.loop-i.invariant.runs in
    let card = rw c.pieces-card-items.ensures.cards at c.card-item.is in
    let taken = rw (c.acts-acts.ensures.cards, c.requires.numbers) at c.take_in.ensures in
    let known = piece-known deck c.requires.faultless limits i inside in
    rw (taken.runs, c.earliest-fault.ensures) (record {
      runs = AreRuns-more (terms_in deck) (pieces_in deck) i (piece_at (pieces_in deck) i).activity runs (run_at runs (piece_at (pieces_in deck) i).activity) are
          (omega (arith, length-map deck.pieces (piece_of deck))) refl (omega (arith, known, length-map deck.acts term_of)) refl (piece-short deck c.requires.faultless limits i inside);
      first = first_with (HasPieceFaultAt deck) i c.loop-i.fault c.take_in.result c.loop-i.invariant.first
          (flaw-is deck c.requires.faultless limits i inside runs are c.card-item.result c.take_in.result card taken.fault);
    })

pub returns-in-Some-clause-first : goal.returns-in-Some-clause-first
returns-in-Some-clause-first c =
    let deck = c.args.cards.now in
    subst (IsFirstIn (HasPieceFault deck)) c.in-Some.is
    (first_of_all (HasPieceFaultAt deck) c.loop-i.i (length deck.pieces) c.loop-i.fault
    (omega (arith, c.loop-i-test.false, c.loop-i.auto.i-end, ap length c.pieces-card-items.ensures.cards)) c.loop-i.invariant.first)

pub returns-clause-none : goal.returns-clause-none
returns-clause-none c =
    let deck = c.args.cards.now in
    subst (IsFirstIn (HasPieceFault deck)) c.in-None.is
    (first_of_all (HasPieceFaultAt deck) c.loop-i.i (length deck.pieces) c.loop-i.fault
    (omega (arith, c.loop-i-test.false, c.loop-i.auto.i-end, ap length c.pieces-card-items.ensures.cards)) c.loop-i.invariant.first)
