use Rattle.std.proofs.Common.{◌+◌, ◌*◌, ◌<◌, ◌≤◌, length, refl, ap, arith}
use Rattle.std.proofs.Math.Nat.{mul-le-mul_left}
use Rattle.pc_laws.proofs.Stairs.StairStates.{stair-fall_positive}
use Rattle.pc_crash.specs.Priced.{knees_in}
use Rattle.pc_flow.specs.board.Sheets.{time_of, flow_of}
use Rattle.pc_flow.specs.inside.search.Choosing.{moving}
use Rattle.pc_flow.specs.search.Labelling.{length_at}
use Rattle.pc_flow.specs.inside.search.Labelling.{slope_at}
use Rattle.pc_flow.proofs.solver.search_on.Goals as goal

pub returns-then-time-shortest-clause-counted : goal.returns-then-time-shortest-clause-counted
returns-then-time-shortest-clause-counted g c =
    let net = c.args.net.now in
    let board = c.label.new.self in
    let labelled = c.label.ensures.labelled in
    let some : 0 < c.label.result.fall =
    stair-fall_positive net.network net.terms (knees_in net) c.facts.ensures.priced (length_at net board) (time_of board) (flow_of board) (slope_at net board)
    labelled.between.state (moving board) c.label.result.fall labelled.falls in
    omega (
      arith,
      c.label.ensures.counted,
      mul-le-mul_left (4 * length net.network.arcs) (let most : 1 + c.label.result.rise ≤ c.label.result.rise + c.label.result.fall = omega (arith, some) in most),
    )

pub returns-then-time-shortest-clause-searched : goal.returns-then-time-shortest-clause-searched
returns-then-time-shortest-clause-searched g c =
    let net = c.args.net.now in
    let end = rw c.net.ensures.network at c.end-end.ensures.end in
    let above : c.args.shortest < length_at net c.args.board.now =
    omega (arith, c.if-time-shortest.true, c.time.ensures, ap (time_of c.args.board.now) end) in
    record {
      above = λ higher. c.label.ensures.labelled;
      still = λ at. absurd (omega (arith, at, above));
      flat = λ at. absurd (omega (arith, at, above));
      none = λ at. absurd (omega (arith, at, above));
    }

pub returns-else-time-shortest-clause-searched : goal.returns-else-time-shortest-clause-searched
returns-else-time-shortest-clause-searched g c =
    let net = c.args.net.now in
    let end = rw c.net.ensures.network at c.end-end.ensures.end in
    let at : length_at net c.args.board.now ≤ c.args.shortest =
    omega (arith, c.if-time-shortest.false, c.time.ensures, ap (time_of c.args.board.now) end) in
    record {
      above = λ above. absurd (omega (arith, at, above));
      still = λ low. refl;
      flat = λ low. refl;
      none = λ low. refl;
    }
