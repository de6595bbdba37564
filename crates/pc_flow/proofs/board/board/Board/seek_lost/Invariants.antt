use Rattle.std.proofs.Common.{◌≤◌, ◌+◌}
use Rattle.pc_model.specs.Sums.{sum_to}
use Rattle.pc_flow.specs.inside.board.Sheets.{lost_of}
use Rattle.pc_flow.specs.inside.search.Growing.{degree, GoesOn, IsAtLost}
use Rattle.pc_flow.proofs.board.board.Board.seek_lost.Given as goal

abbrev pub invariant-loop-i : goal.invariant-loop-i
invariant-loop-i g l = record {
  counted : l.steps ≤ l.initial.steps + sum_to l.i (λ k. degree l.net (lost_of l.initial.self k));
  goes_on : GoesOn l.net (IsAtLost l.net l.initial.self l.i) l.initial.self l.self;
}
