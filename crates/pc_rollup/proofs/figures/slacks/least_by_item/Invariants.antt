use Rattle.pc_rollup.specs.inside.Least.{AreLeastOn}
use Rattle.pc_rollup.proofs.figures.slacks.least_by_item.Given as goal

abbrev pub invariant-loop-p : goal.invariant-loop-p
invariant-loop-p l = AreLeastOn l.fn.items l.placed l.p-index l.least.items
