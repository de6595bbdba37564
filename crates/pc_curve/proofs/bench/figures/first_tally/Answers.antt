use Rattle.std.proofs.Common.{arith}
use Rattle.pc_flow.specs.inside.Courses.{present}
use Rattle.pc_curve.proofs.lemmas.bench.TallyLaws.{below-small}
use Rattle.pc_curve.proofs.bench.figures.first_tally.Goals as goal

pub overflow_add-result : goal.overflow_add-result
overflow_add-result c =
    let small = c.requires.small in
    omega (arith, c.cost.ensures, small.cost, small.upper, c.costs_below.ensures, below-small (present c.args.solver.now) small)
