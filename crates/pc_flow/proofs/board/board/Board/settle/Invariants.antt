use Rattle.std.proofs.Common.{◌+◌, ◌≤◌}
use Rattle.pc_flow.specs.inside.search.Growing.{GoesOn}
use Rattle.pc_flow.proofs.lemmas.search.GrowingLaws.{IsDueBelow}
use Rattle.pc_flow.proofs.board.board.Board.settle.Given as goal

abbrev pub invariant-loop-i : goal.invariant-loop-i
invariant-loop-i g l = record {
  counted : l.steps ≤ l.initial.steps + l.i;
  goes_on : GoesOn l.net (IsDueBelow l.initial.self l.i) l.initial.self l.self;
}
