use Rattle.pc_laws.proofs.state_laws.optimal_state_is_cheapest.Goals as goal
use Rattle.pc_laws.proofs.States.Opening.{optimal_schedule, optimal_is_least, times_within, within_range}

pub returns : goal.returns
returns c = record {
  schedule = optimal_schedule;
  least = optimal_is_least;
  within = within_range;
  times = λ net terms knees st e priced optimal inside. times_within net terms knees st priced optimal e inside;
}
