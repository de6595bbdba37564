use Rattle.pc_load.specs.inside.Entries.{AreCosts}
use Rattle.pc_load.proofs.entries.costs.Given as goal

abbrev pub invariant-loop-a : goal.invariant-loop-a
invariant-loop-a l = AreCosts l.project l.times l.a l.entries.items
