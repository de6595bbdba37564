use Rattle.pc_wbs.proofs.LoopLaws.{IsOnTheWay}
use Rattle.pc_wbs.proofs.loops.loop_from.Given as goal

abbrev pub invariant-loop-step : goal.invariant-loop-step
invariant-loop-step l = IsOnTheWay l.rows l.start l._step l.found.items l.at
