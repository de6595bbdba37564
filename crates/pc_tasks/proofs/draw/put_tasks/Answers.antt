use Rattle.std.proofs.Common.{◌∙◌, ◌++◌, ap, arith}
use Rattle.std.proofs.lemmas.List.{take_all}
use Rattle.pc_tasks.specs.Drawn.{task_acts}
use Rattle.pc_tasks.proofs.DrawLemmas.{put_task}
use Rattle.pc_tasks.proofs.draw.put_tasks.Goals as goal

pub loop-i-preserved : goal.loop-i-preserved
loop-i-preserved c =
    c.in_ok-push.ensures.items
    ∙ put_task c.args.tasks.now c.args.acts.now.items c.loop-i.acts.items c.loop-i.i c.index-tasks-i.result c.task_act.result
    c.loop-i-test.true c.index-tasks-i.is c.loop-i.invariant c.task_act.ensures

pub overflow_cast-i : goal.overflow_cast-i
overflow_cast-i c = omega (arith, c.requires, c.loop-i-test.true)

pub task_act-requires : goal.task_act-requires
task_act-requires c = omega (arith, c.requires, c.loop-i-test.true)

pub returns : goal.returns
returns c = c.loop-i.invariant ∙ ap (λ tasks. c.args.acts.now.items ++ task_acts 0 tasks) (take_all c.loop-i.i c.args.tasks.now c.loop-i-test.false)
