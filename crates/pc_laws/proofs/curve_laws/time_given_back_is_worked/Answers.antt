use Rattle.std.proofs.Common.{refl}
use Rattle.pc_laws.proofs.curve_laws.time_given_back_is_worked.Goals as goal
use Rattle.pc_laws.proofs.Worked.Decks.{bridge_priced, bridge_covering, bridge_points}

pub returns : goal.returns
returns c = record { priced = bridge_priced; covering = bridge_covering; points = bridge_points; taken = refl; given_back = refl }
