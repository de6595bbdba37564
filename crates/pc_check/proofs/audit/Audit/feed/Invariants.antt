use Rattle.std.proofs.Common.{length}
use Rattle.pc_check.proofs.FeedLaws.{IsFeeding}
use Rattle.pc_check.proofs.audit.Audit.feed.Given as goal

abbrev pub invariant-loop-rest : goal.invariant-loop-rest
invariant-loop-rest l = IsFeeding l.initial.self l.self l.piece l.rest

abbrev pub decreases-loop-rest : goal.decreases-loop-rest
decreases-loop-rest l = length l.rest
