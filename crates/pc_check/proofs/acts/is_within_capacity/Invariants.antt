use Rattle.std.proofs.Common.{◌≡◌, true}
use Rattle.std.specs.Prelude.{nat_le, slice_index}
use Rattle.pc_model.specs.inside.Pieces.{knee_at}
use Rattle.pc_check.specs.Known.{each_below}
use Rattle.pc_check.proofs.acts.is_within_capacity.Given as goal

abbrev pub invariant-loop-k : goal.invariant-loop-k
invariant-loop-k l = each_below l.k (λ k. nat_le (slice_index l.flows k) (knee_at l.knees k).rise) ≡ true
