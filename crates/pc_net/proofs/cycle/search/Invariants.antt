use Rattle.std.proofs.Common.{◌≡◌, ◌-◌, vec_len}
use Rattle.pc_net.specs.inside.Cycles.{IsSearchBack}
use Rattle.pc_net.proofs.cycle.search.Given as goal

abbrev pub invariant-loop-at : goal.invariant-loop-at
invariant-loop-at l =
    (vec_len l.ranks ≡ l.graph.events) × IsSearchBack l.graph l.a l.steps.items l.ranks.items l.at

abbrev pub decreases-loop-at : goal.decreases-loop-at
decreases-loop-at l = l.graph.events - l.at
