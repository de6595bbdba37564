use Rattle.pc_flow.proofs.CourseLaws.{crash-normal}
use Rattle.pc_flow.proofs.solver.Solver.shortest.Goals as goal

pub returns-clause-range : goal.returns-clause-range
returns-clause-range c = rw (← c.self.view_is) (crash-normal _ c.self.invariant.on_course)
