use Rattle.std.proofs.Common.{◌<◌, ◌∙◌, length, ap, sym, subst, arith}
use Rattle.std.specs.Prelude.{All, slice_index}
use Rattle.std.proofs.lemmas.List.{length-map}
use Rattle.pc_tasks.specs.network.Cycles.{IsFirstTaskCycle, IsTaskCycle}
use Rattle.pc_tasks.specs.network.Tasks.{AreAmong}
use Rattle.pc_deck.specs.Deck.{task_codes}
use Rattle.pc_faults.specs.Faults.{task_cycle}
use Rattle.pc_project.specs.Records.{codes_at}
use Rattle.pc_project.specs.After.{after_row}
use Rattle.pc_tasks.specs.Refusal.{task_records}
use Rattle.pc_tasks.proofs.KeepLemmas.{rows-among}
use Rattle.pc_tasks.proofs.KnownLemmas.{can_be_drawn}
use Rattle.pc_tasks.proofs.PhaseLemmas.{circle-known, circle-some}
use Rattle.pc_tasks.proofs.WithinLemmas.{few-afters, few-tasks}
use Rattle.pc_tasks.proofs.phases.circle_fault.Goals as goal

pub overflow_cast-tasks : goal.overflow_cast-tasks
overflow_cast-tasks c = omega (arith, ap length c.tasks-tasks.ensures.cards, few-tasks c.args.cards.now c.tasks-tasks.ensures.within)

pub first_circle-requires-clause-few : goal.first_circle-requires-clause-few
first_circle-requires-clause-few c = omega (arith, ap length c.tasks-tasks.ensures.cards, few-tasks c.args.cards.now c.tasks-tasks.ensures.within)

pub first_circle-requires-clause-few_afters : goal.first_circle-requires-clause-few_afters
first_circle-requires-clause-few_afters c =
    let deck = c.args.cards.now in
    omega (arith, ap length c.requires.afters, length-map deck.afters (after_row deck), few-afters deck c.tasks-tasks.ensures.within)

pub first_circle-requires-clause-among : goal.first_circle-requires-clause-among
first_circle-requires-clause-among c =
    let deck = c.args.cards.now in
    subst (λ n. AreAmong n c.args.afters.now) (sym (ap length c.tasks-tasks.ensures.cards))
    (rows-among deck c.args.afters.now (can_be_drawn deck c.requires.faultless c.tasks-tasks.ensures.within) c.requires.afters)

pub told-requires-clause-known : goal.told-requires-clause-known
told-requires-clause-known c =
    let deck = c.args.cards.now in
    subst (All (λ task. task < length deck.tasks)) (sym c.deref.ensures.value)
    (circle-known (length deck.tasks) c.args.afters.now c.in-Some.circle.items
    (rows-among deck c.args.afters.now (can_be_drawn deck c.requires.faultless c.tasks-tasks.ensures.within) c.requires.afters)
    (rw c.in-Some.is at c.in_ok-circle.ensures))

pub returns-in-None : goal.returns-in-None
returns-in-None c = λ tasks round.
    (rw c.in-None.is at c.in_ok-circle.ensures) tasks (subst (λ rows. IsTaskCycle rows tasks) (sym c.requires.afters) round)

pub first_circle-requires-clause-some : goal.first_circle-requires-clause-some
first_circle-requires-clause-some c = omega (arith, ap length c.tasks-tasks.ensures.cards, c.requires.some)

pub told-requires-clause-some : goal.told-requires-clause-some
told-requires-clause-some c =
    subst (λ circle. 0 < length circle) (sym c.deref.ensures.value) (circle-some c.args.afters.now c.in-Some.circle.items (rw c.in-Some.is at c.in_ok-circle.ensures))

pub returns-in_ok-told-in-Some : goal.returns-in_ok-told-in-Some
returns-in_ok-told-in-Some c =
    let deck = c.args.cards.now in (
      c.in-Some.circle.items,
      (
        subst (λ rows. IsFirstTaskCycle rows c.in-Some.circle.items) c.requires.afters (rw c.in-Some.is at c.in_ok-circle.ensures),
        c.in_ok-told-in-Some.ensures
            ∙ ap (λ circle. task_cycle (slice_index (task_records deck) (slice_index circle 0)) (codes_at (task_codes deck) circle)) c.deref.ensures.value,
      ),
    )
