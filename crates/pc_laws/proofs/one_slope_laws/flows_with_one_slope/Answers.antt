use Rattle.pc_laws.proofs.one_slope_laws.flows_with_one_slope.Goals as goal
use Rattle.pc_laws.proofs.OneSlope.{flows, promise_is}

pub returns : goal.returns
returns c = record {
  flows = λ net terms knees flow beside value one. flows net terms knees one flow beside value;
  promises = λ net terms knees flow beside sized one. promise_is net terms knees one sized flow beside;
}
