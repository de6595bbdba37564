use Rattle.pc_laws.proofs.Stairs.StairStates.{stair-segment, stair-fallen, stair-cost}
use Rattle.pc_laws.proofs.whole_flow_laws.whole_flows_give_a_segment.Goals as goal

pub returns : goal.returns
returns c = record {
  segment = stair-segment;
  fallen = stair-fallen;
  cost = stair-cost;
}
