use Rattle.pc_laws.proofs.state_laws.opening_is_optimal.Goals as goal
use Rattle.pc_laws.proofs.States.Opening.{optimal_opening, level_segment, normal_lesser}

pub returns : goal.returns
returns c = record {
  optimal = optimal_opening;
  level = level_segment;
  normal = λ net terms limit times a schedule inside. normal_lesser net terms limit times schedule a inside;
}
