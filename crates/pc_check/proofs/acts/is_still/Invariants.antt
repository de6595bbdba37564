use Rattle.std.proofs.Common.{◌≡◌, true}
use Rattle.std.specs.Prelude.{◌==◌, slice_index}
use Rattle.pc_check.specs.Known.{each_below}
use Rattle.pc_check.proofs.acts.is_still.Given as goal

abbrev pub invariant-loop-k : goal.invariant-loop-k
invariant-loop-k l = each_below l.k (λ k. slice_index l.flows k == 0) ≡ true
