use Rattle.pc_wbs.specs.inside.Ends.{AreGreatest}
use Rattle.pc_wbs.proofs.levels.depth_of.Given as goal

abbrev pub invariant-loop-level : goal.invariant-loop-level
invariant-loop-level l = AreGreatest l.levels l.level-index l.depth
