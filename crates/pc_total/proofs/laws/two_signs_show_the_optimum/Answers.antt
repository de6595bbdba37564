use Rattle.pc_curve.specs.Points.{curve_in}
use Rattle.pc_total.proofs.LeastLaws.{curve-convex}
use Rattle.pc_total.proofs.TotalLaws.{signs-show}
use Rattle.pc_total.proofs.laws.two_signs_show_the_optimum.Goals as goal

pub returns : goal.returns
returns c = λ net terms shortest longest limit total below above priced small low high of shorter longer signs.
    signs-show terms (curve_in net) (curve-convex net priced) small shortest longest limit total of below above low high shorter longer signs
