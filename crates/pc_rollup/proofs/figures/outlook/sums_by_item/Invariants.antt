use Rattle.std.proofs.Common.{◌+◌, length, slice_index}
use Rattle.pc_rollup.proofs.lemmas.figures.OutlookLaws.{AreAddedTo}
use Rattle.pc_rollup.proofs.figures.outlook.sums_by_item.Given as goal

abbrev pub invariant-loop-b : goal.invariant-loop-b
invariant-loop-b l = AreAddedTo l.marks.items l.places (slice_index l.costs) l.accounts l.entries (length l.tree) l.b l.sums.items

abbrev pub invariant-loop-a : goal.invariant-loop-a
invariant-loop-a l =
    AreAddedTo l.marks.items l.places (slice_index l.costs) l.accounts l.entries (length l.tree) (length l.accounts + l.a) l.sums.items
