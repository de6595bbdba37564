-- A small deck in numbers, on which the definitions are worked through by hand: events S, M, T; activities A from S to
-- M, B from M to T and C from S to T.
use Rattle.std.specs.Prelude.{List, [], ◌∷◌}
use Rattle.pc_model.specs.declared.Term.{Term}
use Rattle.pc_model.specs.declared.PieceRow.{PieceRow}
use Rattle.pc_model.specs.Network.{Network}

-- events S = 0, M = 1, T = 2 and activities A = 0, B = 1, C = 2
abbrev pub small_net : Network
small_net = record {
  events = 3;
  start = 0;
  end = 2;
  arcs = record { from = 0; to = 1 } ∷ record { from = 1; to = 2 } ∷ record { from = 0; to = 2 } ∷ [];
}

-- A takes 4 units or 2, B 5 or 3, C 7 or 5; they cost 10, 20, 15, and 3, 5, 2 for each unit saved
abbrev pub small_terms : List Term
small_terms =
    record { normal = 4; crash = 2; cost = 10; slope = 3 }
    ∷ record { normal = 5; crash = 3; cost = 20; slope = 5 }
    ∷ record { normal = 7; crash = 5; cost = 15; slope = 2 }
    ∷ []

-- with a further piece, the second unit saved of A costs 6
abbrev pub small_pieces : List PieceRow
small_pieces = record { activity = 0; units = 1; slope = 6 } ∷ []
