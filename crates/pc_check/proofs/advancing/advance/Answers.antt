use Rattle.std.proofs.Common.{◌^◌, ◌<◌, refl, sym, ap, subst, ◌∙◌, arith}
use Rattle.pc_check.specs.inside.Bounds.{IsBounded}
use Rattle.pc_check.proofs.BoundLaws.{Passes, bounded_behind, fewer_behind, may_be_added, lines_few, lines_kept}
use Rattle.pc_check.specs.inside.Reasons.{reason_of}
use Rattle.pc_check.proofs.advancing.advance.Goals as goal

pub judge-requires-clause-safe : goal.judge-requires-clause-safe
judge-requires-clause-safe c = c.requires.safe

pub judge-requires-clause-known : goal.judge-requires-clause-known
judge-requires-clause-known c = c.requires.known

pub returns-in-Some-clause-reason : goal.returns-in-Some-clause-reason
returns-in-Some-clause-reason c = ap reason_of (sym c.in-Some.is) ∙ c.judge.ensures.reason

pub returns-in-Some-clause-same : goal.returns-in-Some-clause-same
returns-in-Some-clause-same c = c.in-Some.ensures.same

pub returns-in-Some-clause-bounded : goal.returns-in-Some-clause-bounded
returns-in-Some-clause-bounded c = subst (λ k. IsBounded c.args.net.now k) (sym c.in-Some.ensures.same) c.requires.bounded

pub returns-in-Some-clause-few : goal.returns-in-Some-clause-few
returns-in-Some-clause-few c = subst (λ k. k.lines < 2 ^ 63) (sym c.in-Some.ensures.same)
    (lines_few c.requires.bounded c.facts.ensures.events c.facts.ensures.activities)

pub returns-in-Some-clause-safe : goal.returns-in-Some-clause-safe
returns-in-Some-clause-safe c = c.judge.ensures.safe

pub overflow_add-kept : goal.overflow_add-kept
overflow_add-kept c =
    let few = lines_few c.requires.bounded c.facts.ensures.events c.facts.ensures.activities in
    omega (arith, few, lines_kept _ _ _ _ c.in-None.ensures.added)

pub returns-in-None-clause-reason : goal.returns-in-None-clause-reason
returns-in-None-clause-reason c = ap reason_of (sym c.in-None.is) ∙ c.judge.ensures.reason

pub returns-in-None-clause-few : goal.returns-in-None-clause-few
returns-in-None-clause-few c =
    let passes : Passes c.args.net.now c.args.line.now c.args.kept.now c.args.behind = record { goes = c.requires.goes; passes = sym c.judge.ensures.reason ∙ ap reason_of c.in-None.is } in
    lines_few (bounded_behind c.judge.new.kept c.requires.bounded passes c.in-None.ensures.added)
    c.facts.ensures.events c.facts.ensures.activities

pub returns-in-None-clause-safe : goal.returns-in-None-clause-safe
returns-in-None-clause-safe c = c.judge.ensures.safe

pub judge-requires-clause-fits : goal.judge-requires-clause-fits
judge-requires-clause-fits c = λ none.
    let passes : Passes c.args.net.now c.args.line.now c.args.kept.now c.args.behind = record { goes = c.requires.goes; passes = none } in
    may_be_added c.args.net.now c.args.line.now c.args.kept.now c.args.behind c.requires.bounded passes c.facts.ensures.events c.facts.ensures.activities

pub returns-in-None-clause-advances : goal.returns-in-None-clause-advances
returns-in-None-clause-advances c =
    record { goes = c.requires.goes; between = c.judge.new.kept; added = c.in-None.ensures.added; moved = refl }

pub returns-in-None-clause-bounded : goal.returns-in-None-clause-bounded
returns-in-None-clause-bounded c =
    let passes : Passes c.args.net.now c.args.line.now c.args.kept.now c.args.behind = record { goes = c.requires.goes; passes = sym c.judge.ensures.reason ∙ ap reason_of c.in-None.is } in
    bounded_behind c.judge.new.kept c.requires.bounded passes c.in-None.ensures.added

pub returns-in-None-clause-left : goal.returns-in-None-clause-left
returns-in-None-clause-left c =
    let passes : Passes c.args.net.now c.args.line.now c.args.kept.now c.args.behind = record { goes = c.requires.goes; passes = sym c.judge.ensures.reason ∙ ap reason_of c.in-None.is } in
    fewer_behind c.judge.new.kept c.requires.bounded passes c.in-None.ensures.added
