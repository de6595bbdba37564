use Rattle.std.proofs.Common.{rules}
use Rattle.pc_rollup.proofs.SumLaws.{computed, sum_fits, sum_is}
use Rattle.pc_rollup.proofs.lemmas.figures.ValueLaws.{worth_sum}
use Rattle.pc_rollup.proofs.figures.worth.WorthAmountsAmounts.plus.Goals as goal

pub overflow_add-result : goal.overflow_add-result
overflow_add-result c = sum_fits c.args.self.budget c.args.more.budget (search rules) (search rules) (c.requires 0)

pub overflow_add-result-2 : goal.overflow_add-result-2
overflow_add-result-2 c = sum_fits c.args.self.actual c.args.more.actual (search rules) (search rules) (c.requires 1)

pub overflow_add-result-3 : goal.overflow_add-result-3
overflow_add-result-3 c = sum_fits c.args.self.value c.args.more.value (search rules) (search rules) (c.requires 2)

pub overflow_add-result-4 : goal.overflow_add-result-4
overflow_add-result-4 c = sum_fits c.args.self.overrun c.args.more.overrun (search rules) (search rules) (c.requires 3)

pub returns : goal.returns
returns c =
    worth_sum c.args.self c.args.more (record {
      budget = computed c.args.self.budget c.args.more.budget;
      actual = computed c.args.self.actual c.args.more.actual;
      value = computed c.args.self.value c.args.more.value;
      overrun = computed c.args.self.overrun c.args.more.overrun;
    })
    (sum_is c.args.self.budget c.args.more.budget (search rules) (search rules) (c.requires 0))
    (sum_is c.args.self.actual c.args.more.actual (search rules) (search rules) (c.requires 1))
    (sum_is c.args.self.value c.args.more.value (search rules) (search rules) (c.requires 2))
    (sum_is c.args.self.overrun c.args.more.overrun (search rules) (search rules) (c.requires 3))
