use Rattle.std.proofs.Common.{ℕ, ◌<◌}
use Rattle.pc_model.specs.Network.{IsDangling}
use Rattle.pc_net.proofs.refusal.dangling.Given as goal

abbrev pub invariant-loop-event : goal.invariant-loop-event
invariant-loop-event l = (e : ℕ) → e < l.event → IsDangling l.graph e → ⊥
