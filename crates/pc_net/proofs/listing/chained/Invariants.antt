use Rattle.pc_net.specs.inside.Sides.{events_of}
use Rattle.pc_net.specs.inside.Chains.{AreChains}
use Rattle.pc_net.proofs.listing.chained.Given as goal

abbrev pub invariant-loop-i : goal.invariant-loop-i
invariant-loop-i l = AreChains (events_of l.side l.arcs) l.events l.i l.heads.items l.nexts.items
