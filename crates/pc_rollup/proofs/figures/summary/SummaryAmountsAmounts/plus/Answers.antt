use Rattle.std.proofs.Common.{rules}
use Rattle.pc_rollup.proofs.SumLaws.{computed, sum_fits, sum_is}
use Rattle.pc_rollup.proofs.lemmas.figures.AmountLaws.{summary_sum}
use Rattle.pc_rollup.proofs.figures.summary.SummaryAmountsAmounts.plus.Goals as goal

pub overflow_add-result : goal.overflow_add-result
overflow_add-result c = sum_fits c.args.self.budget c.args.more.budget (search rules) (search rules) (c.requires 0)

pub overflow_add-result-2 : goal.overflow_add-result-2
overflow_add-result-2 c = sum_fits c.args.self.actual c.args.more.actual (search rules) (search rules) (c.requires 1)

pub overflow_add-result-3 : goal.overflow_add-result-3
overflow_add-result-3 c = sum_fits c.args.self.to_go c.args.more.to_go (search rules) (search rules) (c.requires 2)

pub overflow_add-result-4 : goal.overflow_add-result-4
overflow_add-result-4 c = sum_fits c.args.self.latest c.args.more.latest (search rules) (search rules) (c.requires 3)

pub overflow_add-result-5 : goal.overflow_add-result-5
overflow_add-result-5 c = sum_fits c.args.self.overrun c.args.more.overrun (search rules) (search rules) (c.requires 4)

pub returns : goal.returns
returns c =
    summary_sum c.args.self c.args.more (record {
      budget = computed c.args.self.budget c.args.more.budget;
      actual = computed c.args.self.actual c.args.more.actual;
      to_go = computed c.args.self.to_go c.args.more.to_go;
      latest = computed c.args.self.latest c.args.more.latest;
      overrun = computed c.args.self.overrun c.args.more.overrun;
    })
    (sum_is c.args.self.budget c.args.more.budget (search rules) (search rules) (c.requires 0))
    (sum_is c.args.self.actual c.args.more.actual (search rules) (search rules) (c.requires 1))
    (sum_is c.args.self.to_go c.args.more.to_go (search rules) (search rules) (c.requires 2))
    (sum_is c.args.self.latest c.args.more.latest (search rules) (search rules) (c.requires 3))
    (sum_is c.args.self.overrun c.args.more.overrun (search rules) (search rules) (c.requires 4))
