use Rattle.pc_laws.proofs.state_laws.fall_gives_a_segment.Goals as goal
use Rattle.pc_laws.proofs.States.Falling.{segment_of_fall, optimal_fallen, cost_fallen}

pub returns : goal.returns
returns c = record {
  segment = λ net terms knees st moves fall priced optimal falls. segment_of_fall net terms knees st moves fall optimal falls priced;
  optimal = λ net terms knees st moves fall priced optimal falls. optimal_fallen net terms knees st moves fall optimal falls priced;
  cost = λ net terms knees st moves fall priced optimal falls. cost_fallen net terms knees st moves fall optimal falls priced;
}
