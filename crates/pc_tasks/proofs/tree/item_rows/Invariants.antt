use Rattle.std.proofs.Common.{◌≡◌, map, take}
use Rattle.pc_project.specs.Project.{row_of}
use Rattle.pc_tasks.proofs.tree.item_rows.Given as goal

abbrev pub invariant-loop-item : goal.invariant-loop-item
invariant-loop-item l = l.rows.items ≡ map (row_of l.cards) (take l.item-index l.item-items)
