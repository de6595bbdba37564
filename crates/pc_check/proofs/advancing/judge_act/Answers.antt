use Rattle.std.proofs.Common.{refl, sym, ap, ◌∙◌}
use Rattle.pc_check.specs.inside.Kept.{known_by}
use Rattle.pc_check.proofs.lemmas.fast.PassedLaws.{lasts_at_most, capacity_kept}
use Rattle.pc_check.specs.inside.Reasons.{reason_of}
use Rattle.pc_check.proofs.advancing.judge_act.Goals as goal

pub passed_of-passed-requires-clause-line : goal.passed_of-passed-requires-clause-line
passed_of-passed-requires-clause-line c =
    record { code = c.args.code.now; named = sym c.has_act_code.ensures ∙ c.if-not-has_act_code.false; says = c.requires.known }

pub passed_of-passed-requires-clause-lasts : goal.passed_of-passed-requires-clause-lasts
passed_of-passed-requires-clause-lasts c =
    let named = sym c.has_act_code.ensures ∙ c.if-not-has_act_code.false in
    lasts_at_most c.args.net.now (known_by c.args.kept.now) c.args.code.now c.args.duration c.args.flows.now (sym (c.reason_at_act.ensures c.args.code.now named) ∙ ap reason_of c.in-None.is)

pub returns-in-Some-clause-reason : goal.returns-in-Some-clause-reason
returns-in-Some-clause-reason c =
    ap reason_of (sym c.in-Some.is) ∙ c.reason_at_act.ensures c.args.code.now (sym c.has_act_code.ensures ∙ c.if-not-has_act_code.false)

pub returns-in-Some-clause-safe : goal.returns-in-Some-clause-safe
returns-in-Some-clause-safe c = c.requires.safe

pub returns-in-None-clause-reason : goal.returns-in-None-clause-reason
returns-in-None-clause-reason c =
    ap reason_of (sym c.in-None.is) ∙ c.reason_at_act.ensures c.args.code.now (sym c.has_act_code.ensures ∙ c.if-not-has_act_code.false)

pub returns-in-None-clause-added : goal.returns-in-None-clause-added
returns-in-None-clause-added c = (refl, rw (← c.passed_of-passed.ensures.duration, ← c.passed_of-passed.ensures.flows) c.add_act.ensures.added)

pub returns-in-None-clause-safe : goal.returns-in-None-clause-safe
returns-in-None-clause-safe c = c.add_act.ensures.safe

pub reason_at_act-requires-clause-crossing : goal.reason_at_act-requires-clause-crossing
reason_at_act-requires-clause-crossing c = c.crossing_of-crossing.ensures

pub add_act-requires-clause-safe : goal.add_act-requires-clause-safe
add_act-requires-clause-safe c = c.requires.safe

pub add_act-requires-clause-crossing : goal.add_act-requires-clause-crossing
add_act-requires-clause-crossing c = c.crossing_of-crossing.ensures

pub add_act-requires-clause-passed : goal.add_act-requires-clause-passed
add_act-requires-clause-passed c = c.passed_of-passed.ensures.passed

pub passed_of-passed-requires-clause-capacity : goal.passed_of-passed-requires-clause-capacity
passed_of-passed-requires-clause-capacity c =
    let named = sym c.has_act_code.ensures ∙ c.if-not-has_act_code.false in
    capacity_kept c.args.net.now (known_by c.args.kept.now) c.args.code.now c.args.duration c.args.flows.now (sym (c.reason_at_act.ensures c.args.code.now named) ∙ ap reason_of c.in-None.is)
