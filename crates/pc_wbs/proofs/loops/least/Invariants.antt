use Rattle.pc_wbs.specs.inside.Ends.{IsLeastBelow}
use Rattle.pc_wbs.proofs.loops.least.Given as goal

abbrev pub invariant-loop-item : goal.invariant-loop-item
invariant-loop-item l = IsLeastBelow l.ends l.item l.least
