use Rattle.std.proofs.Common.{rules}
use Rattle.pc_rollup.proofs.SumLaws.{computed, sum_fits, sum_is}
use Rattle.pc_rollup.proofs.lemmas.figures.OutlookLaws.{outlook_sum}
use Rattle.pc_rollup.proofs.figures.outlook.OutlookAmountsAmounts.plus.Goals as goal

pub overflow_add-result : goal.overflow_add-result
overflow_add-result c = sum_fits c.args.self.budget c.args.more.budget (search rules) (search rules) (c.requires 0)

pub overflow_add-result-2 : goal.overflow_add-result-2
overflow_add-result-2 c = sum_fits c.args.self.outlook c.args.more.outlook (search rules) (search rules) (c.requires 1)

pub overflow_add-result-3 : goal.overflow_add-result-3
overflow_add-result-3 c = sum_fits c.args.self.change c.args.more.change (search rules) (search rules) (c.requires 2)

pub returns : goal.returns
returns c =
    outlook_sum c.args.self c.args.more (record {
      budget = computed c.args.self.budget c.args.more.budget;
      outlook = computed c.args.self.outlook c.args.more.outlook;
      change = computed c.args.self.change c.args.more.change;
    })
    (sum_is c.args.self.budget c.args.more.budget (search rules) (search rules) (c.requires 0))
    (sum_is c.args.self.outlook c.args.more.outlook (search rules) (search rules) (c.requires 1))
    (sum_is c.args.self.change c.args.more.change (search rules) (search rules) (c.requires 2))
