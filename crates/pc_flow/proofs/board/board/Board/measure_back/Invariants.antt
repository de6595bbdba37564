use Rattle.std.proofs.Common.{◌<◌}
use Rattle.pc_flow.specs.board.Sheets.{rank_of}
use Rattle.pc_flow.specs.inside.search.Rooms.{IsMeasured}
use Rattle.pc_flow.proofs.board.board.Board.measure_back.Given as goal

abbrev pub invariant-loop-self : goal.invariant-loop-self
invariant-loop-self l = record {
  known : l.e < l.initial.self.events;
  measured : IsMeasured l.net l.initial.self l.self;
}

abbrev pub decreases-loop-self : goal.decreases-loop-self
decreases-loop-self l = rank_of l.self l.e
