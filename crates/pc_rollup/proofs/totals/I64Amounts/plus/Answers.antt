use Rattle.std.proofs.Common.{rules}
use Rattle.pc_rollup.proofs.SumLaws.{sum_fits}
use Rattle.pc_rollup.proofs.totals.I64Amounts.plus.Goals as goal

pub overflow_add-result : goal.overflow_add-result
overflow_add-result c = sum_fits c.args.self c.args.more (search rules) (search rules) (c.requires 0)
