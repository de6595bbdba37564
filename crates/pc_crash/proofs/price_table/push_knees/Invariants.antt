use Rattle.pc_crash.proofs.KneeListLaws.{IsPushed}
use Rattle.pc_crash.proofs.price_table.push_knees.Given as goal

abbrev pub invariant-loop-piece : goal.invariant-loop-piece
invariant-loop-piece l = IsPushed l.fn.term l.pieces l.fn.knees.items l.piece-index l.at l.slope l.knees.items
