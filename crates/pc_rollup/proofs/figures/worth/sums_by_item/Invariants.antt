use Rattle.std.proofs.Common.{length}
use Rattle.pc_accounts.specs.Amounts.{item_of}
use Rattle.pc_rollup.specs.inside.figures.Columns.{worth_columns}
use Rattle.pc_rollup.specs.inside.figures.Packages.{worth_at}
use Rattle.pc_rollup.proofs.ColumnLaws.{AreSummedTo}
use Rattle.pc_rollup.proofs.figures.worth.sums_by_item.Given as goal

abbrev pub invariant-loop-a : goal.invariant-loop-a
invariant-loop-a l =
    AreSummedTo worth_columns (item_of l.accounts) (worth_at l.progress l.accounts l.entries) (length l.accounts) (length l.tree) l.a l.sums.items
