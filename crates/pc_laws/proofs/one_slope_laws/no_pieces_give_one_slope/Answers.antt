use Rattle.pc_laws.proofs.one_slope_laws.no_pieces_give_one_slope.Goals as goal
use Rattle.pc_laws.proofs.OneSlope.{no_pieces, one_knee_slope}

pub returns : goal.returns
returns c = record { pieces = no_pieces; knee = one_knee_slope }
