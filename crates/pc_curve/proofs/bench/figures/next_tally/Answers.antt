use Rattle.std.proofs.Common.{arith}
use Rattle.pc_flow.specs.inside.Courses.{present}
use Rattle.pc_curve.proofs.lemmas.bench.TallyLaws.{below-small}
use Rattle.pc_curve.proofs.bench.figures.next_tally.Goals as goal

pub overflow_add-result-2 : goal.overflow_add-result-2
overflow_add-result-2 c =
    let small = c.requires.small in
    omega (arith, c.requires.room.sum, small.upper, c.costs_below.ensures, below-small (present c.args.solver.now) small)
