use Rattle.std.proofs.Common.{length}
use Rattle.pc_accounts.specs.Amounts.{item_of}
use Rattle.pc_rollup.specs.figures.Figures.{account_summary_at}
use Rattle.pc_rollup.specs.inside.figures.Columns.{summary_columns}
use Rattle.pc_rollup.proofs.ColumnLaws.{AreSummedTo}
use Rattle.pc_rollup.proofs.figures.summary.sums_by_item.Given as goal

abbrev pub invariant-loop-a : goal.invariant-loop-a
invariant-loop-a l =
    AreSummedTo summary_columns (item_of l.accounts) (account_summary_at l.entries) (length l.accounts) (length l.tree) l.a l.sums.items
