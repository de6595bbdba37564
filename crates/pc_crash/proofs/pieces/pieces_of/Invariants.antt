use Rattle.std.proofs.Common.{◌≡◌, take}
use Rattle.pc_model.specs.Pieces.{pieces_of}
use Rattle.pc_crash.proofs.pieces.pieces_of.Given as goal

abbrev pub invariant-loop-piece : goal.invariant-loop-piece
invariant-loop-piece l = l.own.items ≡ pieces_of (take l.piece-index l.pieces) l.a
