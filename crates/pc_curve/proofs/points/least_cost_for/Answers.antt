use Rattle.std.proofs.Common.{◌≡◌, ◌+◌, ◌-◌, ◌*◌, ◌≤◌, refl, sym, ap, subst, arith}
use Rattle.pc_laws.specs.Segment.{cost_for}
use Rattle.pc_flow.specs.inside.Courses.{present}
use Rattle.pc_curve.specs.Points.{curve_in}
use Rattle.pc_curve.proofs.ReadLaws.{reading-small, read-least}
use Rattle.pc_curve.proofs.points.least_cost_for.Goals as goal
use Rattle.pc_curve.proofs.points.least_cost_for.Goals.{After-upper}

-- what is computed
read : (c : After-upper) → c.cost.result + c.slope.result * (c.upper.result - c.args.length) ≡ cost_for (present c.args.solver.now) c.args.length
read c =
    omega (
      arith,
      c.cost.ensures,
      ap (λ n. n * (c.upper.result - c.args.length)) c.slope.ensures,
      ap (λ n. (present c.args.solver.now).slope * (n - c.args.length)) c.upper.ensures,
    )

-- and that it is small
small : (c : After-upper) → c.cost.result + c.slope.result * (c.upper.result - c.args.length) ≤ 220000000000000000
small c =
    let known = c.facts.ensures in
    omega (
      arith,
      read c,
      reading-small c.args.solver.now.net known.priced known.limits known.pieces known.piece_limits c.args.solver.now refl c.args.length c.requires,
    )

pub returns-clause-least : goal.returns-clause-least
returns-clause-least c =
    subst (curve_in c.args.solver.now.net c.args.length) (sym (read c))
    (read-least c.args.solver.now.net c.facts.ensures.priced c.args.solver.now refl c.args.length c.requires)

pub overflow_mul-result : goal.overflow_mul-result
overflow_mul-result c = omega (arith, small c)

pub overflow_add-result : goal.overflow_add-result
overflow_add-result c = omega (arith, small c)
