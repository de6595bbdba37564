use Rattle.std.proofs.Common.{◌∙◌, ap, length, arith}
use Rattle.std.proofs.lemmas.List.{length-map}
use Rattle.pc_project.specs.After.{after_row}
use Rattle.pc_tasks.proofs.DrawLemmas.{acts-put, firsts-few, lasts-few, wider}
use Rattle.pc_tasks.proofs.WithinLemmas.{few-afters, few-tasks}
use Rattle.pc_tasks.proofs.draw.acts_of.Goals as goal

pub overflow_cast-tasks : goal.overflow_cast-tasks
overflow_cast-tasks c = omega (arith, ap length c.tasks.ensures.cards, few-tasks c.args.cards.now c.tasks.ensures.within)

pub put_acts-requires-clause-few : goal.put_acts-requires-clause-few
put_acts-requires-clause-few c =
    let deck = c.args.cards.now in
    omega (arith, ap length c.requires.afters, length-map deck.afters (after_row deck), few-afters deck c.tasks.ensures.within)

pub put_acts-requires-clause-among : goal.put_acts-requires-clause-among
put_acts-requires-clause-among c = wider (length c.args.cards.now.tasks) 4000 c.args.afters.now (few-tasks c.args.cards.now c.tasks.ensures.within) c.requires.among

pub put_acts-requires-clause-heads : goal.put_acts-requires-clause-heads
put_acts-requires-clause-heads c =
    firsts-few (length c.tasks.result.now) c.args.afters.now c.deref.result.now (c.deref.ensures.value ∙ c.in_ok-heads.ensures)
    (omega (arith, ap length c.tasks.ensures.cards, few-tasks c.args.cards.now c.tasks.ensures.within))

pub put_acts-requires-clause-tails : goal.put_acts-requires-clause-tails
put_acts-requires-clause-tails c =
    lasts-few (length c.tasks.result.now) c.args.afters.now c.deref-2.result.now (c.deref-2.ensures.value ∙ c.in_ok-tails.ensures)
    (omega (arith, ap length c.tasks.ensures.cards, few-tasks c.args.cards.now c.tasks.ensures.within))

pub returns : goal.returns
returns c =
    acts-put c.args.cards.now c.args.afters.now (length c.tasks.result.now) c.deref.result.now c.deref-2.result.now (ap length c.tasks.ensures.cards) c.requires.afters
    (c.deref.ensures.value ∙ c.in_ok-heads.ensures) (c.deref-2.ensures.value ∙ c.in_ok-tails.ensures)
    c.in_ok-acts.acts.items c.put_acts.new.acts.items c.in_ok-acts.ensures.items c.in_ok-put_acts.ensures
