use Rattle.pc_laws.proofs.Stairs.StairStates.{stair-opening_state, stair-level_segment}
use Rattle.pc_laws.proofs.whole_flow_laws.nothing_flows_at_first.Goals as goal

pub returns : goal.returns
returns c = record {
  state = stair-opening_state;
  level = stair-level_segment;
}
