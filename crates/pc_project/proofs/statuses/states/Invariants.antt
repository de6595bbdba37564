use Rattle.pc_project.specs.Figures.{AreStatesOf}
use Rattle.pc_project.proofs.statuses.states.Given as goal

abbrev pub invariant-loop-a : goal.invariant-loop-a
invariant-loop-a l = AreStatesOf l.cards.project.start_day l.log.statuses l.a l.states.items
