use Rattle.std.proofs.Common.{◌≡◌, true}
use Rattle.std.specs.Prelude.{slice_index}
use Rattle.pc_model.specs.inside.Pieces.{knee_at}
use Rattle.pc_check.specs.Known.{each_below}
use Rattle.pc_check.specs.KneeTests.{is_slack_at_knee}
use Rattle.pc_check.proofs.acts.is_slack.Given as goal

abbrev pub invariant-loop-k : goal.invariant-loop-k
invariant-loop-k l = each_below l.k (λ k. is_slack_at_knee l.gap.head l.gap.tail (knee_at l.knees k).at (knee_at l.knees k).rise (slice_index l.flows k)) ≡ true
