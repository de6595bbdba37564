use Rattle.std.proofs.Common.{◌≡◌, ℕ, ◌<◌, vec_len}
use Rattle.pc_net.specs.Cycles.{LiesOnCycle}
use Rattle.pc_net.proofs.cycle.first_cycle.Given as goal

abbrev pub invariant-loop-a : goal.invariant-loop-a
invariant-loop-a l =
    (vec_len l.ranks ≡ l.graph.events) × ((b : ℕ) → b < l.a → LiesOnCycle l.graph.arcs b → ⊥)
