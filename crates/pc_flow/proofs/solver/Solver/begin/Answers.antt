use Rattle.pc_flow.proofs.OpeningLaws.{opening-level, opening-longest, opening-on_course}
use Rattle.pc_flow.proofs.solver.Solver.begin.Goals as goal

pub invariant_of-result : goal.invariant_of-result
invariant_of-result c =
    let shape = c.facts.ensures in
    let opening = c.open_board-opening.ensures in
    let order = rw c.net.ensures.network at c.facts-2.ensures.ordered in
    record {
      on_course =
          opening-on_course c.args.net.now c.args.region c.open_board-opening.result.board opening.opened shape.priced shape.limits shape.pieces
          shape.piece_limits _ _ _ opening.longest c.normal_cost.ensures order.0 order.1 opening.shortest;
    }

pub returns-clause-level : goal.returns-clause-level
returns-clause-level c =
    let shape = c.facts.ensures in
    let opening = c.open_board-opening.ensures in
    opening-level c.args.net.now c.args.region c.open_board-opening.result.board opening.opened shape.priced shape.limits shape.pieces
    shape.piece_limits _ _ _ opening.longest c.normal_cost.ensures

pub returns-clause-longest : goal.returns-clause-longest
returns-clause-longest c =
    let shape = c.facts.ensures in
    let opening = c.open_board-opening.ensures in
    opening-longest c.args.net.now c.args.region c.open_board-opening.result.board opening.opened shape.priced shape.limits shape.pieces
    shape.piece_limits _ c.open_board-opening.result.shortest _ opening.longest c.normal_cost.ensures
