use Rattle.pc_accounts.specs.inside.Parts.{AreBudgetSums}
use Rattle.pc_accounts.proofs.packages.budget_sums.Given as goal

abbrev pub invariant-loop-account : goal.invariant-loop-account
invariant-loop-account l = AreBudgetSums l.fn.items l.accounts l.account-index l.sums.items
