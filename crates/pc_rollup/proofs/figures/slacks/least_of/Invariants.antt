use Rattle.std.proofs.Common.{length}
use Rattle.pc_rollup.proofs.BackLaws.{order_of}
use Rattle.pc_rollup.proofs.LeastLaws.{AreLeastGathered}
use Rattle.pc_rollup.proofs.figures.slacks.least_of.Given as goal

abbrev pub invariant-loop-item : goal.invariant-loop-item
invariant-loop-item l = AreLeastGathered l.tree (order_of l.initial.item-iterator) (length l.yielded) l.placed l.least.items
