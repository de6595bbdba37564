use Rattle.std.proofs.Common.{◌≡◌, false}
use Rattle.pc_model.specs.inside.Pieces.{knee_at}
use Rattle.pc_check.specs.Known.{some_below}
use Rattle.pc_check.specs.inside.KneeTests.{stops_at_knee_over}
use Rattle.pc_check.proofs.acts.stops.Given as goal

abbrev pub invariant-loop-knee : goal.invariant-loop-knee
invariant-loop-knee l = some_below l.knee-index (λ k. stops_at_knee_over l.crossing (knee_at l.knees k).at) ≡ false
