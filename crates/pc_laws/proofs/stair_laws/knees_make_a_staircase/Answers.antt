use Rattle.std.proofs.Common.{refl}
use Rattle.pc_laws.proofs.Stairs.OnStair.{knees_fall, knees_open}
use Rattle.pc_laws.proofs.stair_laws.knees_make_a_staircase.Goals as goal

pub returns : goal.returns
returns c = record { falling = knees_fall; reaches = λ terms knees a. refl; opens = knees_open }
