use Rattle.pc_accounts.specs.inside.Parts.{AreActuals}
use Rattle.pc_accounts.proofs.book.actuals.Given as goal

abbrev pub invariant-loop-charge : goal.invariant-loop-charge
invariant-loop-charge l = AreActuals l.fn.accounts l.charges l.as_of l.charge-index l.actuals.items
