use Rattle.std.proofs.Common.{sym, ap, ◌∙◌}
use Rattle.pc_laws.specs.Segment.{head_at}
use Rattle.pc_check.specs.Conditions.{is_slack_in}
use Rattle.pc_check.specs.inside.Kept.{stretch_of}
use Rattle.pc_check.proofs.StillLaws.{stands_still, still_slack}
use Rattle.pc_check.proofs.reasons.fits_gaps.Goals as goal

pub returns-then-not-crosses : goal.returns-then-not-crosses
returns-then-not-crosses c =
    let net = c.args.net.now in
    let a = c.args.a in
    let flows = c.args.flows.now in
    let seg = stretch_of c.args.tally.now in
    let crossing = c.args.crossing.now in
    c.fits_gap.ensures
    ∙ ap (λ head. is_slack_in net head crossing.upper.tail a flows) c.requires.crossing.upper_head
    ∙ ap (λ tail. is_slack_in net (head_at net.network.arcs seg 0 a) tail a flows) c.requires.crossing.upper_tail
    ∙ still_slack net seg a flows (stands_still net.network.arcs seg a crossing c.requires.crossing (sym c.crosses.ensures ∙ c.if-not-crosses.true))
