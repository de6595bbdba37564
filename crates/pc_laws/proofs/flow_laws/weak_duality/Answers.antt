use Rattle.pc_laws.proofs.flow_laws.weak_duality.Goals as goal
use Rattle.pc_laws.proofs.Flows.Duality.{weak_duality, weak_duality-bound}

pub returns : goal.returns
returns c = record {
  promised = λ net terms knees f g d T value limit priced flows s. weak_duality net terms knees priced f g value flows limit d T s;
  bounded = λ net terms knees f g d T value limit priced flows s. weak_duality-bound net terms knees priced f g value flows limit d T s;
}
