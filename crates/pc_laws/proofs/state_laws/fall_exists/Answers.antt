use Rattle.pc_laws.proofs.state_laws.fall_exists.Goals as goal
use Rattle.pc_laws.proofs.States.Falling.{fall_positive, fall_within, fall_in_range}
use Rattle.pc_laws.proofs.States.FallExists.{fall_exists}

pub returns : goal.returns
returns c = record {
  exists = λ net terms knees st moves priced optimal stuck. fall_exists net terms knees st moves optimal priced stuck;
  positive = fall_positive;
  within = λ net terms knees st moves fall priced optimal falls. fall_within net terms knees st moves fall optimal falls priced;
  in_range = λ net terms knees st moves fall shortest priced optimal falls longest. fall_in_range net terms knees st moves fall optimal falls priced shortest longest;
}
