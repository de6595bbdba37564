use Rattle.std.proofs.Common.{◌≡◌, ℕ, ◌<◌, ◌==◌, length, slice_index, count_by, take}
use Rattle.pc_net.specs.declared.graph.Side.TheVariants.{Ends}
use Rattle.pc_net.specs.inside.Sides.{events_of}
use Rattle.pc_net.proofs.ordering.entering.Given as goal

abbrev pub invariant-loop-a : goal.invariant-loop-a
invariant-loop-a l =
    (length l.counts.items ≡ l.graph.events) × ((v : ℕ) → v < l.graph.events → slice_index l.counts.items v ≡ count_by (λ w. w == v) (take l.a (events_of Ends l.graph.arcs)))
