use Rattle.std.proofs.Common.{sym, ◌∙◌}
use Rattle.pc_check.proofs.BelowLaws.{some_below-finds, passes_behind}
use Rattle.pc_check.proofs.StillLaws.{no_stop}
use Rattle.pc_check.proofs.acts.stops.Goals as goal

pub returns-then-stops_at_knee : goal.returns-then-stops_at_knee
returns-then-stops_at_knee c =
    passes_behind _ _ (some_below-finds _ _ c.loop-knee.knee-index c.loop-knee-test.true (sym c.stops_at_knee.ensures ∙ c.if-stops_at_knee.true))

pub returns-then-not-crosses : goal.returns-then-not-crosses
returns-then-not-crosses c = sym (no_stop c.args.crossing.now c.args.crash c.args.knees.now (sym c.crosses.ensures ∙ c.if-not-crosses.true))
