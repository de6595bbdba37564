use Rattle.std.proofs.Common.{◌≢◌, ℕ, ◌<◌}
use Rattle.pc_model.specs.Walk.{from_of, to_of}
use Rattle.pc_low_tests.proofs.net.is_in_range.Given as goal

abbrev pub invariant-loop-arc : goal.invariant-loop-arc
invariant-loop-arc l =
    (a : ℕ) → a < l.arc-index → (from_of l.arcs a < l.events) × (to_of l.arcs a < l.events) × (from_of l.arcs a ≢ to_of l.arcs a)
