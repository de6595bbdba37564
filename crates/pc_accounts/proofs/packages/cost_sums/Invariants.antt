use Rattle.pc_accounts.specs.inside.Parts.{AreCostSums}
use Rattle.pc_accounts.proofs.packages.cost_sums.Given as goal

abbrev pub invariant-loop-activity : goal.invariant-loop-activity
invariant-loop-activity l = AreCostSums l.fn.items l.work l.activity-index l.sums.items
