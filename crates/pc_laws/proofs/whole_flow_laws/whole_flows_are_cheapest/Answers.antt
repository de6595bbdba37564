use Rattle.pc_laws.proofs.Stairs.StairStates.{stair-schedule, stair-least, stair-within_range, stair-times_within}
use Rattle.pc_laws.proofs.whole_flow_laws.whole_flows_are_cheapest.Goals as goal

pub returns : goal.returns
returns c = record {
  schedule = stair-schedule;
  least = stair-least;
  within = stair-within_range;
  times = stair-times_within;
}
