use Rattle.std.proofs.Common.{◌<◌, length, ap, arith}
use Rattle.pc_crash.proofs.OwnPieceLaws.{own-room}
use Rattle.pc_crash.proofs.pieces.pieces_of.Goals as goal

pub push-requires : goal.push-requires
push-requires c =
    let room : length c.loop-piece.own.items < 4 =
    omega (
      arith,
      ap length c.loop-piece.invariant,
      own-room c.args.pieces.now c.loop-piece.piece-index c.args.a c.loop-piece-test.true c.if-piece-a.true,
      c.requires,
    ) in
    (omega arith, room)
