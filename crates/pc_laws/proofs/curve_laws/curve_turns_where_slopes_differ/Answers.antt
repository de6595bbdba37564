use Rattle.pc_model.specs.Cost.{IsLeastCost}
use Rattle.pc_laws.proofs.curve_laws.curve_turns_where_slopes_differ.Goals as goal
use Rattle.pc_laws.proofs.Curves.Turns.{straight, turns, turned, is_curve, lies_on}

pub returns : goal.returns
returns c = record {
  inside = λ net terms knees seg limit priced right above below.
      straight (IsLeastCost net terms knees) (is_curve net terms knees priced) seg (lies_on net terms knees priced seg right) limit above below;
  between = λ net terms knees earlier later priced first second meet. (
    turned (IsLeastCost net terms knees) (is_curve net terms knees priced) earlier later
        (lies_on net terms knees priced earlier first) (lies_on net terms knees priced later second) meet,
    turns (IsLeastCost net terms knees) (is_curve net terms knees priced) earlier later
        (lies_on net terms knees priced earlier first) (lies_on net terms knees priced later second) meet,
  );
}
