use Rattle.std.proofs.Common.{◌∙◌, ap, length, sym, subst, arith}
use Rattle.pc_model.specs.Walk.{IsCycle}
use Rattle.pc_tasks.proofs.CircleLemmas.{length-wide, none_dangles, not_entered, not_left}
use Rattle.pc_tasks.proofs.circle.first_circle.Goals as goal

pub build-requires-clause-few_activities : goal.build-requires-clause-few_activities
build-requires-clause-few_activities c =
    omega (arith, ap length (c.deref.ensures.value ∙ c.in_ok-arcs.ensures), length-wide c.args.tasks c.args.afters.now, c.requires.few, c.requires.few_afters)

pub returns-in-Ok : goal.returns-in-Ok
returns-in-Ok c = λ cycle is.
    let (walk, round, of) = c.wide_arrows_have_the_cycles.ensures.drawn c.args.tasks c.args.afters.now cycle c.requires.among is in
    c.in-Ok.ensures.sound.no_cycle walk (subst (λ arcs. IsCycle arcs walk) (sym (c.deref.ensures.value ∙ c.in_ok-arcs.ensures)) round)

pub unreachable-requires : goal.unreachable-requires
unreachable-requires c =
    not_entered c.args.tasks c.args.afters.now c.deref.result.now (c.deref.ensures.value ∙ c.in_ok-arcs.ensures)
    (c.wide_arrows_have_the_cycles.ensures.firm c.args.tasks c.args.afters.now c.requires.among c.requires.some) _
    (rw c.in-Err-StartEntered.field-0-is at c.in-Err-StartEntered.ensures.refused)

pub unreachable-requires-in-Err-EndLeft : goal.unreachable-requires-in-Err-EndLeft
unreachable-requires-in-Err-EndLeft c =
    not_left c.args.tasks c.args.afters.now c.deref.result.now (c.deref.ensures.value ∙ c.in_ok-arcs.ensures)
    (c.wide_arrows_have_the_cycles.ensures.firm c.args.tasks c.args.afters.now c.requires.among c.requires.some) _
    (rw c.in-Err-EndLeft.field-0-is at c.in-Err-EndLeft.ensures.refused)

pub unreachable-requires-in-Err-Dangling : goal.unreachable-requires-in-Err-Dangling
unreachable-requires-in-Err-Dangling c =
    none_dangles c.args.tasks c.args.afters.now c.deref.result.now (c.deref.ensures.value ∙ c.in_ok-arcs.ensures)
    (c.wide_arrows_have_the_cycles.ensures.firm c.args.tasks c.args.afters.now c.requires.among c.requires.some) _ _
    (rw c.in-Err-Dangling.field-0-is at c.in-Err-Dangling.ensures.refused)
