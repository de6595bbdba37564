use Rattle.pc_laws.proofs.Stairs.FilledState.{filled-optimal, filled-stuck, filled-fall, optimal-stair}
use Rattle.pc_laws.proofs.Stairs.StairStates.{falling}
use Rattle.pc_laws.proofs.whole_flow_laws.whole_flows_are_states.Goals as goal

pub returns : goal.returns
returns c = record {
  at_knees = λ net terms knees priced. filled-optimal net terms knees (falling net terms knees priced);
  stuck = λ net terms knees priced limit time along value moves. filled-stuck net terms knees (falling net terms knees priced) limit time along value moves;
  fall = λ net terms knees priced limit time along value moves. filled-fall net terms knees (falling net terms knees priced) limit time along value moves;
  whole = λ net terms knees priced. optimal-stair net terms knees (falling net terms knees priced);
}
