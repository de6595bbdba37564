use Rattle.pc_laws.proofs.state_laws.raising_keeps_optimal.Goals as goal
use Rattle.pc_laws.proofs.States.Raising.{optimal_raised}

pub returns : goal.returns
returns c = record {
  optimal = λ net terms knees st f g room priced optimal raising. optimal_raised net terms knees st room f g priced optimal raising;
}
