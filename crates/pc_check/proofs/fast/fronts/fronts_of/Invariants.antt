use Rattle.pc_check.proofs.lemmas.fast.FrontsLaws.{AreFirst}
use Rattle.pc_check.proofs.fast.fronts.fronts_of.Given as goal

abbrev pub invariant-loop-e : goal.invariant-loop-e
invariant-loop-e l = AreFirst l.net l.fronts.items l.e
