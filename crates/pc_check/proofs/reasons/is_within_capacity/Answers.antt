use Rattle.std.proofs.Common.{◌∙◌, ap}
use Rattle.pc_crash.specs.Priced.{knees_in}
use Rattle.pc_check.specs.inside.KneeTests.{is_within_capacity_over}
use Rattle.pc_check.proofs.KneeLaws.{is_within_capacity-list}
use Rattle.pc_check.proofs.reasons.is_within_capacity.Goals as goal

pub returns : goal.returns
returns c =
    c.is_within_capacity.ensures
    ∙ ap (λ list. is_within_capacity_over list c.as_slice-2.result.now) c.as_slice.ensures
    ∙ ap (λ flows. is_within_capacity_over c.knees-list.result flows) c.as_slice-2.ensures.value
    ∙ is_within_capacity-list (knees_in c.args.net.now) c.args.a c.knees-list.result c.knees-list.ensures c.args.flows.now
