use Rattle.std.proofs.Common.{◌≡◌, false}
use Rattle.std.specs.Prelude.{filter, not, slice_index_or}
use Rattle.std.specs.List.{range_with_len}
use Rattle.pc_tasks.proofs.links.unmarked.Given as goal

abbrev pub invariant-loop-i : goal.invariant-loop-i
invariant-loop-i l = l.found.items ≡ filter (λ i. not (slice_index_or l.marks i false)) (range_with_len 0 l.i)
