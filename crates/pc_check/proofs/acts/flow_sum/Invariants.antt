use Rattle.std.proofs.Common.{◌≡◌, ◌*◌, ◌^◌, ◌≤◌}
use Rattle.std.specs.Prelude.{slice_index}
use Rattle.pc_model.specs.Sums.{sum_to}
use Rattle.pc_check.proofs.acts.flow_sum.Given as goal

abbrev pub invariant-loop-flow : goal.invariant-loop-flow
invariant-loop-flow l = (l.sum ≡ sum_to l.flow-index (slice_index l.flows)) × (l.sum ≤ l.flow-index * 2 ^ 64)
