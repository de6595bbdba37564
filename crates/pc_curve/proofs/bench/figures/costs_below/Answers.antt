use Rattle.std.proofs.Common.{◌∙◌}
use Rattle.pc_flow.specs.inside.Courses.{present}
use Rattle.pc_curve.proofs.lemmas.bench.SumLaws.{below-is}
use Rattle.pc_curve.proofs.bench.figures.costs_below.Goals as goal

pub returns : goal.returns
returns c =
    c.rising_sum.ensures
    ∙ below-is (present c.args.solver.now) c.requires.small.ordered _ _ _ _ c.cost.ensures c.slope.ensures c.upper.ensures c.lower.ensures
