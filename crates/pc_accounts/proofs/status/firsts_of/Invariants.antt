use Rattle.pc_accounts.specs.inside.status.Firsts.{AreFirsts}
use Rattle.pc_accounts.proofs.status.firsts_of.Given as goal

abbrev pub invariant-loop-k : goal.invariant-loop-k
invariant-loop-k l = AreFirsts l.fn.activities l.statuses l.ended l.k l.firsts.items
