use Rattle.std.proofs.Common.{sym}
use Rattle.pc_curve.proofs.lemmas.bench.SumLaws.{rising}
use Rattle.pc_curve.proofs.bench.figures.rising_sum.Goals as goal

pub returns : goal.returns
returns c = sym (rising c.args.count c.args.cost c.args.slope)
