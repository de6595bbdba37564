use Rattle.std.proofs.Common.{◌∙◌, ◌∷◌, [], ◌++◌, ap, length, arith}
use Rattle.std.proofs.lemmas.List.{take_all}
use Rattle.pc_deck.specs.declared.kinds.project.ProjectCard.{ProjectCard}
use Rattle.pc_tasks.specs.Drawn.{drawn_event, task_events}
use Rattle.pc_tasks.proofs.DrawLemmas.{put_events}
use Rattle.pc_tasks.proofs.WithinLemmas.{few-tasks}
use Rattle.pc_tasks.proofs.draw.events_of.Goals as goal

pub overflow_cast-tasks : goal.overflow_cast-tasks
overflow_cast-tasks c = omega (arith, ap length c.tasks.ensures.cards, few-tasks c.args.cards.now c.tasks.ensures.within)

pub begin_code-requires : goal.begin_code-requires
begin_code-requires c = omega (arith, c.loop-i-test.true, ap length c.tasks.ensures.cards, few-tasks c.args.cards.now c.tasks.ensures.within)

pub end_code-requires : goal.end_code-requires
end_code-requires c = omega (arith, c.loop-i-test.true, ap length c.tasks.ensures.cards, few-tasks c.args.cards.now c.tasks.ensures.within)

pub loop-i-preserved : goal.loop-i-preserved
loop-i-preserved c =
    let deck = c.args.cards.now in
    c.in_ok-push-3.ensures.items
    ∙ (ap (λ xs. xs ++ c.drawn_event-in-loop-i-2.result ∷ []) c.in_ok-push-2.ensures.items
    ∙ put_events deck.tasks (drawn_event deck.project.start ∷ []) c.loop-i.events.items c.loop-i.i c.drawn_event-in-loop-i.result c.drawn_event-in-loop-i-2.result
    (omega (arith, c.loop-i-test.true, ap length c.tasks.ensures.cards)) c.loop-i.invariant
    (c.drawn_event-in-loop-i.ensures ∙ ap drawn_event c.begin_code.ensures) (c.drawn_event-in-loop-i-2.ensures ∙ ap drawn_event c.end_code.ensures))

pub overflow_mul-tasks : goal.overflow_mul-tasks
overflow_mul-tasks c = omega (arith, ap length c.tasks.ensures.cards, few-tasks c.args.cards.now c.tasks.ensures.within)

pub overflow_add-tasks : goal.overflow_add-tasks
overflow_add-tasks c = omega (arith, ap length c.tasks.ensures.cards, few-tasks c.args.cards.now c.tasks.ensures.within)

pub loop-i-init : goal.loop-i-init
loop-i-init c =
    c.in_ok-push.ensures.items
    ∙ (ap (λ xs. xs ++ c.drawn_event.result ∷ []) c.in_ok-events.ensures.items
    ∙ ap (λ x. x ∷ []) (c.drawn_event.ensures ∙ ap (λ (project : ProjectCard). drawn_event project.start) c.project.ensures.card))

pub returns : goal.returns
returns c =
    let deck = c.args.cards.now in
    let start = drawn_event deck.project.start in
    c.in_ok-push-4.ensures.items
    ∙ (ap (λ xs. xs ++ c.drawn_event-2.result ∷ [])
    (c.loop-i.invariant
    ∙ ap (λ tasks. start ∷ task_events 0 tasks) (take_all c.loop-i.i deck.tasks (omega (arith, c.loop-i-test.false, ap length c.tasks.ensures.cards))))
    ∙ ap (λ x. start ∷ (task_events 0 deck.tasks ++ x ∷ [])) (c.drawn_event-2.ensures ∙ ap (λ (project : ProjectCard). drawn_event project.end) c.project-2.ensures.card))
