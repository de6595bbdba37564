use Rattle.pc_crash.proofs.OwnPieceLaws.{IsSummed}
use Rattle.pc_crash.proofs.pieces.cost_with.Given as goal

abbrev pub invariant-loop-piece : goal.invariant-loop-piece
invariant-loop-piece l = IsSummed l.fn.term l.pieces l.duration l.piece-index l.cost l.knee l.slope
