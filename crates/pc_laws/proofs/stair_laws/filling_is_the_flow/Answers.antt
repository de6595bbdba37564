use Rattle.pc_laws.proofs.Stairs.OnStair.{knee_flow-sum, knee_flow-within}
use Rattle.pc_laws.proofs.stair_laws.filling_is_the_flow.Goals as goal

pub returns : goal.returns
returns c = record { whole = knee_flow-sum; within = knee_flow-within }
