use Rattle.std.proofs.Common.{refl}
use Rattle.pc_laws.proofs.Stairs.WorkedKnee.{middle_state, middle_fall}
use Rattle.pc_laws.proofs.whole_flow_laws.middle_knee_is_worked.Goals as goal

pub returns : goal.returns
returns c = record { state = middle_state; units = (refl, refl, refl); knees = (refl, refl); fall = middle_fall }
