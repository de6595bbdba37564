use Rattle.std.proofs.Common.{◌++◌, ◌∙◌, map, ap, sym, refl, rules, arith, append_assoc}
use Rattle.std.specs.List.{range_with_len}
use Rattle.std.proofs.lemmas.List.{append-nil, take_all}
use Rattle.std.proofs.lemmas.Iterator.{YieldsList-from_map, YieldsList-from_range}
use Rattle.std.proofs.lemmas.Iterator.Adapters.{items_from_extend}
use Rattle.pc_tasks.specs.network.Arrows.{after_arc, first_arc, last_arc, task_arc}
use Rattle.pc_tasks.specs.network.Tasks.{after_at}
use Rattle.pc_tasks.proofs.PutLemmas.{put_place}
use Rattle.pc_tasks.proofs.circle.wide_arcs.Goals as goal

pub overflow_mul-after : goal.overflow_mul-after
overflow_mul-after c = omega (arith, c.requires.few, c.requires.among.before c.loop-after.after-index c.loop-after-test.true)

pub overflow_add-after : goal.overflow_add-after
overflow_add-after c = omega (arith, c.requires.few, c.requires.among.before c.loop-after.after-index c.loop-after-test.true)

pub overflow_mul-after-in-loop-after : goal.overflow_mul-after-in-loop-after
overflow_mul-after-in-loop-after c = omega (arith, c.requires.few, c.requires.among.task c.loop-after.after-index c.loop-after-test.true)

pub overflow_add-after-in-loop-after : goal.overflow_add-after-in-loop-after
overflow_add-after-in-loop-after c = omega (arith, c.requires.few, c.requires.among.task c.loop-after.after-index c.loop-after-test.true)

pub loop-after-init : goal.loop-after-init
loop-after-init c =
    let numbers = range_with_len 0 c.args.tasks in
    let ran = items_from_extend c.extend.result c.extend.ensures.ran
    (YieldsList-from_map _ task_arc (YieldsList-from_range 0 c.args.tasks c.args.tasks c.map.ensures.source (omega arith)) c.map.ensures.closure (λ x r q h. search rules)) in
    let tasks = rw c.in_ok-extend.was at ran in
    tasks.0 ∙ (ap (λ arcs. arcs ++ map task_arc numbers) c.in_ok-arcs.ensures.items ∙ sym (append-nil (map task_arc numbers)))

pub loop-after-preserved : goal.loop-after-preserved
loop-after-preserved c =
    c.in_ok-push.ensures.items
    ∙ put_place after_arc c.args.afters.now (map task_arc (range_with_len 0 c.args.tasks)) c.loop-after.arcs.items c.loop-after.after-index
    (after_arc (after_at c.args.afters.now c.loop-after.after-index)) (record { task = 0; before = 0 }) c.loop-after-test.true c.loop-after.invariant refl

pub returns : goal.returns
returns c =
    let numbers = range_with_len 0 c.args.tasks in
    let afters = c.args.afters.now in
    let ran_firsts = items_from_extend c.extend-2.result c.extend-2.ensures.ran
    (YieldsList-from_map _ first_arc (YieldsList-from_range 0 c.args.tasks c.args.tasks c.map-2.ensures.source (omega arith)) c.map-2.ensures.closure (λ x r q h. search rules)) in
    let ran_lasts = items_from_extend c.extend-3.result c.extend-3.ensures.ran
    (YieldsList-from_map _ (last_arc c.args.tasks) (YieldsList-from_range 0 c.args.tasks c.args.tasks c.map-3.ensures.source (omega arith)) c.map-3.ensures.closure (λ x r q h. search rules)) in
    let firsts = rw c.in_ok-extend-2.was at ran_firsts in
    let lasts = rw c.in_ok-extend-3.was at ran_lasts in
    let links = c.loop-after.invariant ∙ ap (λ rows. map task_arc numbers ++ map after_arc rows) (take_all c.loop-after.after-index afters c.loop-after-test.false) in
    lasts.0
    ∙ (ap (λ arcs. arcs ++ map (last_arc c.args.tasks) numbers) (firsts.0 ∙ ap (λ arcs. arcs ++ map first_arc numbers) links)
    ∙ (append_assoc (map task_arc numbers ++ map after_arc afters) (map first_arc numbers) (map (last_arc c.args.tasks) numbers)
    ∙ append_assoc (map task_arc numbers) (map after_arc afters) (map first_arc numbers ++ map (last_arc c.args.tasks) numbers)))
