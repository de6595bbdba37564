use Rattle.pc_laws.proofs.Stairs.OnStair.{stair-between, stair-along, stair-against}
use Rattle.pc_laws.proofs.stair_laws.flow_may_change.Goals as goal

pub returns : goal.returns
returns c = record { between = stair-between; along = stair-along; against = stair-against }
