use Rattle.pc_load.specs.inside.Entries.{AreLoads}
use Rattle.pc_load.proofs.entries.loads.Given as goal

abbrev pub invariant-loop-load : goal.invariant-loop-load
invariant-loop-load l = AreLoads l.project l.times l.load-index l.entries.items
