use Rattle.pc_flow.proofs.lemmas.board.PruningLaws.{IsPruning}
use Rattle.pc_flow.proofs.board.board.Board.prune.Given as goal

abbrev pub invariant-loop-i : goal.invariant-loop-i
invariant-loop-i l = IsPruning l.initial.self l.self l.i l.kept l.gone l.seen
