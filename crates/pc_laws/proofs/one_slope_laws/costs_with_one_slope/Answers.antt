use Rattle.pc_laws.proofs.one_slope_laws.costs_with_one_slope.Goals as goal
use Rattle.pc_laws.proofs.OneSlope.{costs_is, least_is}

pub returns : goal.returns
returns c = record {
  costs = λ net terms knees d sized one. costs_is net terms knees one sized d;
  least = λ net terms knees limit cost sized one. least_is net terms knees one sized limit cost;
}
