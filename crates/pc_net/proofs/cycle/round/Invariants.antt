use Rattle.pc_net.proofs.SearchLaws.{IsWayBack}
use Rattle.pc_net.proofs.cycle.round.Given as goal

abbrev pub invariant-loop-rank : goal.invariant-loop-rank
invariant-loop-rank l = IsWayBack l.graph l.a l.steps l.ranks l.cycle.items l.rank

abbrev pub decreases-loop-rank : goal.decreases-loop-rank
decreases-loop-rank l = l.rank
