use Rattle.pc_accounts.proofs.SecondLaws.{IsSeen}
use Rattle.pc_accounts.proofs.book.refuse_second.Given as goal

abbrev pub invariant-loop-second : goal.invariant-loop-second
invariant-loop-second l = IsSeen l.togos l.second l.seen
