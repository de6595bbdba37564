use Rattle.pc_laws.proofs.one_slope_laws.segments_with_one_slope.Goals as goal
use Rattle.pc_laws.proofs.OneSlope.{segment_is, covering_is}

pub returns : goal.returns
returns c = record {
  segment = λ net terms knees seg sized one. segment_is net terms knees one sized seg;
  covering = λ net terms knees segments high low sized one. covering_is net terms knees one sized segments high low;
}
