use Rattle.std.proofs.Common.{◌∙◌, List, sym, subst, arith}
use Rattle.pc_model.specs.declared.PieceRow.{PieceRow}
use Rattle.pc_model.specs.Schedule.{term_at}
use Rattle.pc_crash.specs.inside.OwnPieces.{AreOwnPieces}
use Rattle.pc_crash.proofs.OwnPieceLaws.{added-most}
use Rattle.pc_crash.proofs.pieces.cost_of_one.Goals as goal

pub cost_with-requires : goal.cost_with-requires
cost_with-requires c =
    subst (AreOwnPieces (term_at c.args.terms.now c.args.a)) (sym (c.as_slice.ensures.value ∙ c.pieces_of-own.ensures)) c.requires.own

pub returns-clause-limit : goal.returns-clause-limit
returns-clause-limit c =
    let pieces : List PieceRow = c.as_slice.result.now in
    let is = subst (AreOwnPieces (term_at c.args.terms.now c.args.a)) (sym (c.as_slice.ensures.value ∙ c.pieces_of-own.ensures)) c.requires.own in
    omega (arith, c.cost_with.ensures, added-most (term_at c.args.terms.now c.args.a) pieces is c.args.duration, is.cheap)
