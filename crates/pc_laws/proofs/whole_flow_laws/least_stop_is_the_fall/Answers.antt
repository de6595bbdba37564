use Rattle.pc_laws.proofs.Stairs.StairStates.{stair-chosen, stair-fall_positive, stair-fall_within, stair-fall_in_range}
use Rattle.pc_laws.proofs.whole_flow_laws.least_stop_is_the_fall.Goals as goal

pub returns : goal.returns
returns c = record {
  chosen = stair-chosen;
  positive = stair-fall_positive;
  within = stair-fall_within;
  in_range = stair-fall_in_range;
}
