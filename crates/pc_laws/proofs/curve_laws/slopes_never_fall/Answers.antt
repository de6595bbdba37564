use Rattle.pc_model.specs.Cost.{IsLeastCost}
use Rattle.pc_laws.proofs.curve_laws.slopes_never_fall.Goals as goal
use Rattle.pc_laws.proofs.Curves.Turns.{upper_costs, slopes_rise, is_curve, lies_on}

pub returns : goal.returns
returns c = record {
  upper = λ net terms knees seg priced right long.
      upper_costs (IsLeastCost net terms knees) (is_curve net terms knees priced) seg (lies_on net terms knees priced seg right) long;
  never = λ net terms knees earlier later priced first second meet.
      slopes_rise (IsLeastCost net terms knees) (is_curve net terms knees priced) earlier later
      (lies_on net terms knees priced earlier first) (lies_on net terms knees priced later second) meet;
}
