use Rattle.std.proofs.Common.{length}
use Rattle.pc_rollup.proofs.BackLaws.{order_of}
use Rattle.pc_rollup.proofs.ColumnLaws.{AreRollingIn}
use Rattle.pc_rollup.proofs.totals.roll.Given as goal

abbrev pub invariant-loop-item : goal.invariant-loop-item
invariant-loop-item g l = AreRollingIn g.A.Amounts.columns l.tree (order_of l.initial.item-iterator) (length l.yielded) l.fn.amounts l.amounts
