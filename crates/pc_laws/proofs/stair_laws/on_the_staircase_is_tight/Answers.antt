use Rattle.pc_laws.proofs.Stairs.Tightness.{stair-tight, tight-on_stair, stair-price}
use Rattle.pc_laws.proofs.stair_laws.on_the_staircase_is_tight.Goals as goal

pub returns : goal.returns
returns c = record { tight = stair-tight; on = tight-on_stair; price = stair-price }
