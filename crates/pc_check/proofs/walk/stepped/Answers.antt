use Rattle.std.proofs.Common.{sym, ◌∙◌}
use Rattle.pc_check.proofs.NamedLaws.{named_is_index}
use Rattle.pc_check.proofs.walk.stepped.Goals as goal

pub returns-in_err-a-clause-step : goal.returns-in_err-a-clause-step
returns-in_err-a-clause-step c =
    let named = c.activity_named.ensures in
    let found = named_is_index c.activity_named.result c.args.code.now c.facts.ensures.activity_names named.known named.named named.unknown in
    rw (c.in_ok-here.was, sym found ∙ c.in_err-a.was) c.from_residual-in_err-a.ensures

pub returns-clause-step : goal.returns-clause-step
returns-clause-step c =
    let named = c.activity_named.ensures in
    let found = named_is_index c.activity_named.result c.args.code.now c.facts.ensures.activity_names named.known named.named named.unknown in
    rw (c.in_ok-here.was, sym found ∙ c.in_ok-a.was) c.further.ensures.step
