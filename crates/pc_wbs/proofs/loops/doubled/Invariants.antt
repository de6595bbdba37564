use Rattle.pc_wbs.specs.inside.Ends.{AreDoubled}
use Rattle.pc_wbs.proofs.loops.doubled.Given as goal

abbrev pub invariant-loop-item : goal.invariant-loop-item
invariant-loop-item l = AreDoubled l.ends l.item l.twice.items
