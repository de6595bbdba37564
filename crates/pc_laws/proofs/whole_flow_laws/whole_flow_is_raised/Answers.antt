use Rattle.pc_laws.proofs.Stairs.Raised.{stair-raising_begins, stair-raising_along, stair-raising_against, stair-raised}
use Rattle.pc_laws.proofs.whole_flow_laws.whole_flow_is_raised.Goals as goal

pub returns : goal.returns
returns c = record {
  begins = stair-raising_begins;
  along = stair-raising_along;
  against = stair-raising_against;
  raised = stair-raised;
}
