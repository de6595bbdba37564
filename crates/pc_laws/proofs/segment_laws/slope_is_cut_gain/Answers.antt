use Rattle.std.proofs.Common.{arith}
use Rattle.std.proofs.lemmas.Int.{ints}
use Rattle.pc_laws.proofs.segment_laws.slope_is_cut_gain.Goals as goal
use Rattle.pc_laws.proofs.Segments.Readings.{cut_rises}

pub returns : goal.returns
returns c = record {
  crossed = λ net terms knees seg priced right. cut_rises net terms knees priced seg right;
  gained = λ net terms knees seg priced right. omega (arith, ints, cut_rises net terms knees priced seg right);
}
