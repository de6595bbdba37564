use Rattle.std.proofs.Common.{◌-◌, arith}
use Rattle.pc_curve.specs.Points.{curve_in}
use Rattle.pc_total.proofs.ConvexLaws.{gains-fall}
use Rattle.pc_total.proofs.LeastLaws.{curve-convex}
use Rattle.pc_total.proofs.laws.gains_fall.Goals as goal

pub returns : goal.returns
returns c = λ net short long a b c d priced longer first second third fourth.
    omega (arith, gains-fall (curve_in net) (curve-convex net priced) (long - short) short long a b c d (omega (arith, longer)) first second third fourth)
