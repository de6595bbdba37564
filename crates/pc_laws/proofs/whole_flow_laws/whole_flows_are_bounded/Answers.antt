use Rattle.pc_laws.proofs.Stairs.StairStates.{stair-value_bounded, stair-value_above_crash, stair-units_bounded}
use Rattle.pc_laws.proofs.whole_flow_laws.whole_flows_are_bounded.Goals as goal

pub returns : goal.returns
returns c = record {
  by_slopes = stair-value_bounded;
  above_all_crash = stair-value_above_crash;
  by_value = stair-units_bounded;
}
