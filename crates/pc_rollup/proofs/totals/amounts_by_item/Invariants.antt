use Rattle.pc_rollup.proofs.PlacedLaws.{AreSummed}
use Rattle.pc_rollup.proofs.totals.amounts_by_item.Given as goal

abbrev pub invariant-loop-p : goal.invariant-loop-p
invariant-loop-p l = AreSummed l.fn.items l.placed l.p-index l.amounts.items
