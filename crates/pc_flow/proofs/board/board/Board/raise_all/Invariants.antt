use Rattle.std.proofs.Common.{◌+◌, ◌*◌, ◌≤◌, ◌-◌, length}
use Rattle.pc_flow.specs.search.Labelling.{slopes_in}
use Rattle.pc_flow.specs.inside.search.Labelling.{IsUnderWay, Rises, slope_at}
use Rattle.pc_flow.proofs.board.board.Board.raise_all.Given as goal

abbrev pub invariant-loop-self : goal.invariant-loop-self
invariant-loop-self g l = record {
  counted : l.steps ≤ l.initial.steps + 4 * length l.net.network.arcs * l.rise;
  rises : Rises l.net l.initial.self l.self l.rise;
  under_way : IsUnderWay l.net l.self;
}

-- no more than the last slopes can flow
abbrev pub decreases-loop-self : goal.decreases-loop-self
decreases-loop-self g l = slopes_in l.net - slope_at l.net l.self
