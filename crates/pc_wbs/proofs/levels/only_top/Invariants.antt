use Rattle.pc_wbs.specs.inside.Ends.{IsTopBelow}
use Rattle.pc_wbs.proofs.levels.only_top.Given as goal

abbrev pub invariant-loop-item : goal.invariant-loop-item
invariant-loop-item l = IsTopBelow l.rows l.item l.top
