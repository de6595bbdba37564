use Rattle.pc_model.specs.Cost.{IsLeastCost}
use Rattle.pc_model.proofs.Costs.LeastCost.{unique}
use Rattle.pc_laws.proofs.curve_laws.segments_give_the_breakpoints.Goals as goal
use Rattle.pc_laws.proofs.Curves.OneList.{one_list}
use Rattle.pc_laws.proofs.Curves.Points.{covering_points, front_points_above}

pub returns : goal.returns
returns c = record {
  above = front_points_above;
  points = covering_points;
  unique = λ net terms knees shortest longest points others p q.
      one_list (IsLeastCost net terms knees) (unique net terms knees) shortest longest points others p q;
}
