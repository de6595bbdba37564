use Rattle.std.proofs.Common.{◌<◌, [], length, refl, subst, sym, arith}
use Rattle.std.proofs.lemmas.List.{get_or_read}
use Rattle.arrayvec.specs.ArrayVec.{ArrayVec, array_vec_len}
use Rattle.pc_model.specs.declared.PieceRow.{PieceRow}
use Rattle.pc_crash.specs.Priced.{piece_at}
use Rattle.pc_crash.proofs.GroupLaws.{group_room}
use Rattle.pc_crash.proofs.pieces.grouped.Goals as goal

pub push-requires : goal.push-requires
push-requires c =
    let pieces = c.args.pieces.now in
    let i = c.loop-piece.piece-index in
    let groups = c.loop-piece.groups.items in
    let known = c.requires.named i c.loop-piece-test.true in
    let room = group_room c.args.terms.now pieces i (length c.args.terms.now) (piece_at pieces i).activity groups c.requires c.loop-piece.invariant c.loop-piece-test.true refl known known in
    let read = get_or_read groups (piece_at pieces i).activity c.index_mut.result.now (omega (arith, c.loop-piece.invariant.one_each, known)) c.index_mut.ensures.value (record { items = [] }) in
    (omega arith, subst (λ (g : ArrayVec PieceRow). array_vec_len g < 4) (sym read) room)
