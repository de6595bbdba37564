use Rattle.pc_laws.proofs.segment_laws.readings_are_right.Goals as goal
use Rattle.pc_laws.proofs.Segments.Readings.{right_at}

pub returns : goal.returns
returns c = λ net terms knees seg limit priced right holds. right_at net terms knees priced seg right limit holds.above holds.below
