use Rattle.std.proofs.Common.{◌≡◌, ◌++◌, take}
use Rattle.pc_tasks.specs.Drawn.{task_acts}
use Rattle.pc_tasks.proofs.draw.put_tasks.Given as goal

abbrev pub invariant-loop-i : goal.invariant-loop-i
invariant-loop-i l = l.acts.items ≡ l.initial.acts.items ++ task_acts 0 (take l.i l.tasks)
