use Rattle.std.proofs.Common.{sym, ◌∙◌}
use Rattle.pc_check.proofs.BelowLaws.{each_below-fails, fails_before}
use Rattle.pc_check.proofs.acts.is_slack.Goals as goal

pub returns-then-not-is_slack_at_knee : goal.returns-then-not-is_slack_at_knee
returns-then-not-is_slack_at_knee c =
    fails_before _ _ (each_below-fails _ _ c.loop-k.k c.loop-k-test.true (sym c.is_slack_at_knee.ensures ∙ c.if-not-is_slack_at_knee.true))
