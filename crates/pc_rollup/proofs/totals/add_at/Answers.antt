use Rattle.pc_rollup.proofs.ColumnLaws.{column_more}
use Rattle.pc_rollup.proofs.totals.add_at.Goals as goal

pub returns : goal.returns
returns g c = λ k.
    column_more g.A.Amounts.columns k c.args.items.now c.args.item c.index-items-i.result c.args.more c.plus.result c.requires.known c.index-items-i.is (c.plus.ensures k)
