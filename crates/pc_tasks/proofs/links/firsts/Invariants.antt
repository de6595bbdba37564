use Rattle.std.proofs.Common.{take}
use Rattle.pc_tasks.specs.network.Arrows.{comes_after}
use Rattle.pc_tasks.specs.inside.Marks.{AreMarks}
use Rattle.pc_tasks.proofs.links.firsts.Given as goal

abbrev pub invariant-loop-after : goal.invariant-loop-after
invariant-loop-after l = AreMarks l.tasks (comes_after (take l.after-index l.afters)) l.come.items
