use Rattle.pc_flow.proofs.CourseLaws.{whole, lower-above, slope-most}
use Rattle.pc_flow.proofs.solver.Solver.facts.Goals as goal

pub returns-clause-whole : goal.returns-clause-whole
returns-clause-whole c = rw (← c.self.view_is) (whole _ c.self.invariant.on_course)

pub returns-clause-range : goal.returns-clause-range
returns-clause-range c = rw (← c.self.view_is) (lower-above _ c.self.invariant.on_course)

pub returns-clause-gentle : goal.returns-clause-gentle
returns-clause-gentle c = rw (← c.self.view_is) (slope-most _ c.self.invariant.on_course)
