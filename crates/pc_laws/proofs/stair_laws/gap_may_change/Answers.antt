use Rattle.pc_laws.proofs.Stairs.OnStair.{stair-shrinks, stair-grows, stair-opening, stair-room}
use Rattle.pc_laws.proofs.stair_laws.gap_may_change.Goals as goal

pub returns : goal.returns
returns c = record { shrinks = stair-shrinks; grows = stair-grows; opens = stair-opening; room = stair-room }
