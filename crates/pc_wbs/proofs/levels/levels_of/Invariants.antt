use Rattle.pc_wbs.specs.inside.Ends.{AreLevels}
use Rattle.pc_wbs.proofs.levels.levels_of.Given as goal

abbrev pub invariant-loop-item : goal.invariant-loop-item
invariant-loop-item l = AreLevels l.rows l.item l.levels.items
