use Rattle.std.proofs.Common.{refl}
use Rattle.pc_laws.proofs.curve_laws.pieces_are_worked.Goals as goal
use Rattle.pc_laws.proofs.Worked.Decks.{small_covering, small_points}

pub returns : goal.returns
returns c = record { covering = small_covering; points = small_points; shortened = refl }
