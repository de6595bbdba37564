use Rattle.std.proofs.Common.{◌≡◌, ◌-ℤ◌, pos, map, take}
use Rattle.pc_times.proofs.events.late.Given as goal

abbrev pub invariant-loop-tail : goal.invariant-loop-tail
invariant-loop-tail l = l.times.items ≡ map (λ n. l.fn.by -ℤ pos n) (take l.tail-index l.tail-items)
