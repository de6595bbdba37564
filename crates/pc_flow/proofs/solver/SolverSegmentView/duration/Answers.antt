use Rattle.std.proofs.Common.{ap, arith}
use Rattle.pc_flow.specs.board.Sheets.{time_of}
use Rattle.pc_flow.proofs.solver.SolverSegmentView.duration.Goals as goal

pub overflow_sub-ends : goal.overflow_sub-ends
overflow_sub-ends c =
    let on = c.self.invariant.on_course in
    let known = rw (← c.self.view_is) at c.requires.activity in
    let begins = rw (← c.self.view_is) at c.time-begins.ensures in
    let ends = rw (← c.self.view_is) at c.time-ends.ensures in
    let from = rw c.net.ensures.network at c.from.ensures.event in
    let to = rw c.net-2.ensures.network at c.to.ensures.event in
    omega (
      arith,
      begins,
      ends,
      ap (time_of c.self.inside.board) from,
      ap (time_of c.self.inside.board) to,
      on.between.search.stairs.ahead c.args.a known,
    )
