use Rattle.std.proofs.Common.{◌∙◌, ap}
use Rattle.pc_crash.specs.Priced.{knees_in}
use Rattle.pc_check.specs.inside.KneeTests.{is_slack_over}
use Rattle.pc_check.proofs.KneeLaws.{is_slack-list}
use Rattle.pc_check.proofs.reasons.fits_gap.Goals as goal

pub returns : goal.returns
returns c =
    c.is_slack.ensures
    ∙ ap (λ list. is_slack_over c.args.gap.head c.args.gap.tail c.term.result.crash list c.as_slice-2.result.now) c.as_slice.ensures
    ∙ ap (λ flows. is_slack_over c.args.gap.head c.args.gap.tail c.term.result.crash c.knees-list.result flows) c.as_slice-2.ensures.value
    ∙ ap (λ term. is_slack_over c.args.gap.head c.args.gap.tail term.crash c.knees-list.result c.args.flows.now) c.term.ensures
    ∙ is_slack-list (knees_in c.args.net.now) c.args.a c.knees-list.result c.knees-list.ensures c.args.gap.head c.args.gap.tail _ c.args.flows.now
