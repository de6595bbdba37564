use Rattle.std.proofs.Common.{refl, arith}
use Rattle.std.specs.Fmt.{digits}
use Rattle.pc_certify.proofs.laws.small_decks_are_written.Goals as goal

pub returns : goal.returns
unfolding digits
returns c = record {
  one_slope = refl;
  in_pieces = refl;
  complete = record {
    high = 9;
    low = 5;
    front = c.pieces_are_worked.ensures.covering.front;
    normal_walk = record { leads = (omega arith, refl, (omega arith, refl, refl)); adds = refl };
    crash_walk = record { leads = (omega arith, refl, (omega arith, refl, refl)); adds = refl };
  };
}
