use Rattle.std.proofs.Common.{◌≡◌, ◌++◌, map, take}
use Rattle.pc_tasks.specs.Drawn.{first_link}
use Rattle.pc_tasks.proofs.draw.put_firsts.Given as goal

abbrev pub invariant-loop-i : goal.invariant-loop-i
invariant-loop-i l = l.acts.items ≡ l.initial.acts.items ++ map (first_link l.cards) (take l.i-index l.tasks)
