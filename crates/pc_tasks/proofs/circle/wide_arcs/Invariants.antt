use Rattle.std.proofs.Common.{◌≡◌, ◌++◌, map, take}
use Rattle.std.specs.List.{range_with_len}
use Rattle.pc_tasks.specs.network.Arrows.{after_arc, task_arc}
use Rattle.pc_tasks.proofs.circle.wide_arcs.Given as goal

abbrev pub invariant-loop-after : goal.invariant-loop-after
invariant-loop-after l = l.arcs.items ≡ map task_arc (range_with_len 0 l.tasks) ++ map after_arc (take l.after-index l.afters)
