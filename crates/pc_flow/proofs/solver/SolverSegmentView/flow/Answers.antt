use Rattle.std.proofs.Common.{◌∙◌, arith}
use Rattle.pc_model.specs.Schedule.{crash_of}
use Rattle.pc_flow.specs.board.Sheets.{flow_of}
use Rattle.pc_flow.proofs.FlowLaws.{knee-flow, beside-flow}
use Rattle.pc_flow.proofs.solver.SolverSegmentView.flow.Goals as goal

pub returns-then-k-len-clause-at_knee : goal.returns-then-k-len-clause-at_knee
returns-then-k-len-clause-at_knee c = rw (← c.self.view_is) (λ below.
    let net = c.self.inside.net.now in
    let at = rw (c.as_slice.ensures, c.flow-flow.ensures) at c.flow_at.ensures (crash_of net.terms c.args.a) in
    at ∙ knee-flow net c.args.a c.knees-knees.result c.knees-knees.ensures (flow_of c.self.inside.board c.args.a) c.args.k (omega (arith, c.if-k-len.true, c.len.ensures)))

pub returns-else-k-len-clause-beside : goal.returns-else-k-len-clause-beside
returns-else-k-len-clause-beside c = rw (← c.self.view_is) (λ last.
    let net = c.self.inside.net.now in
    let at = rw (c.as_slice-else-k-len.ensures, c.flow-flow.ensures) at c.beside.ensures (crash_of net.terms c.args.a) in
    at ∙ beside-flow net c.args.a c.knees-knees.result c.knees-knees.ensures (flow_of c.self.inside.board c.args.a))
