use Rattle.pc_model.proofs.Costs.PieceLaws.{pieces_fit, one_knee_fits, last_slope-pieces}
use Rattle.pc_model.proofs.schedule_laws.pieces_make_knees.Goals as goal

pub returns : goal.returns
returns c = record { fit = pieces_fit; one = one_knee_fits; last = last_slope-pieces }
