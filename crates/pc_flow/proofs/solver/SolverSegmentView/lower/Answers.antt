use Rattle.std.proofs.Common.{arith}
use Rattle.pc_flow.specs.inside.Solvers.{course_of}
use Rattle.pc_flow.proofs.CourseLaws.{fall-within}
use Rattle.pc_flow.proofs.solver.SolverSegmentView.lower.Goals as goal

pub overflow_sub-result : goal.overflow_sub-result
overflow_sub-result c =
    let upper = rw (← c.self.view_is) at c.upper.ensures in
    omega (arith, upper, fall-within (course_of c.self.inside) c.self.invariant.on_course)
