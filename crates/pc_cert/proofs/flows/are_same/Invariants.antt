use Rattle.std.proofs.Common.{◌≡◌, ◌&&◌, drop}
use Rattle.std.specs.Prelude.{nat_eq}
use Rattle.std.specs.Cmp.Lexicographic.{pointwise}
use Rattle.pc_cert.proofs.flows.are_same.Given as goal

-- all cells are the same if those so far and those after them are
abbrev pub invariant-loop-i : goal.invariant-loop-i
invariant-loop-i l = pointwise nat_eq l.one l.other ≡ (l.are_same && pointwise nat_eq (drop l.i l.one) (drop l.i l.other))
