use Rattle.std.proofs.Common.{◌≡◌, ◌*◌, ◌-◌}
use Rattle.pc_model.specs.Sums.{sum_to}
use Rattle.pc_model.specs.inside.Pieces.{knee_at}
use Rattle.pc_crash.proofs.crash_net.price_of.Given as goal

abbrev pub invariant-loop-knee : goal.invariant-loop-knee
invariant-loop-knee l = l.price ≡ sum_to l.knee-index (λ k. (knee_at l.knees k).rise * ((knee_at l.knees k).at - l.duration))
