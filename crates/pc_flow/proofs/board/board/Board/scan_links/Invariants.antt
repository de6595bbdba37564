use Rattle.std.proofs.Common.{◌≤◌, ◌+◌}
use Rattle.pc_model.specs.Greatest.{StandsBelow}
use Rattle.pc_crash.specs.inside.Links.{activities_of}
use Rattle.pc_flow.specs.inside.search.Growing.{GoesOn}
use Rattle.pc_flow.proofs.board.board.Board.scan_links.Given as goal

abbrev pub invariant-loop-link : goal.invariant-loop-link
invariant-loop-link g l = record {
  counted : l.steps ≤ l.initial.steps + l.link-index;
  goes_on : GoesOn l.net (StandsBelow (activities_of l.links) l.link-index) l.initial.self l.self;
}
