use Rattle.std.proofs.Common.{arith}
use Rattle.pc_flow.specs.inside.stair.Rows.{stair}
use Rattle.pc_laws.proofs.Stairs.OnStair.{stair-against}
use Rattle.pc_flow.proofs.stair.room_against.Goals as goal

pub returns-clause-room : goal.returns-clause-room
returns-clause-room c =
    let piece = c.piece_of-piece.ensures.piece in
    let found = c.piece_of-piece.result in
    let from = piece.from in
    λ gap on at.
    stair-against (stair c.args.knees.now c.args.crash) c.requires.falling gap c.args.flow _ found.length found.below found.above piece on
    c.requires.flows at (omega arith) (omega arith)
