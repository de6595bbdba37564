use Rattle.pc_laws.proofs.flow_laws.last_slopes_are_small.Goals as goal
use Rattle.pc_laws.proofs.Flows.Bounds.{last_slope-small, last_slopes-small}

pub returns : goal.returns
returns c = record { each = last_slope-small; sum = last_slopes-small }
