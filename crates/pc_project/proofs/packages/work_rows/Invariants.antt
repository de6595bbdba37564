use Rattle.std.proofs.Common.{◌≡◌, map, take}
use Rattle.pc_project.specs.Project.{work_of}
use Rattle.pc_project.proofs.packages.work_rows.Given as goal

abbrev pub invariant-loop-a : goal.invariant-loop-a
invariant-loop-a l = l.work.items ≡ map (work_of l.cards) (take l.a l.cards.acts)
