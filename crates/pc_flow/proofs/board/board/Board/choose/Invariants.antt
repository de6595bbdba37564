use Rattle.std.proofs.Common.{◌≡◌, ◌+◌}
use Rattle.pc_flow.proofs.lemmas.search.ChoosingLaws.{IsChoosing}
use Rattle.pc_flow.proofs.board.board.Board.choose.Given as goal

abbrev pub invariant-loop-i : goal.invariant-loop-i
invariant-loop-i g l = record {
  counted : l.steps ≡ l.initial.steps + l.i;
  choosing : IsChoosing l.net l.initial.self l.self l.i l.kept l.least;
}
