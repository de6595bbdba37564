-- Curves worked through by hand, in numbers.
use Rattle.std.specs.Prelude.{ℕ, nat_lt, List, [], ◌∷◌, slice_index, slice_index_or, Some, None}
use Rattle.pc_model.specs.declared.Term.{Term}
use Rattle.pc_model.specs.Network.{Network}
use Rattle.pc_laws.specs.Segment.{Segment}
use Rattle.pc_laws.specs.Curve.{Breakpoint}

-- a segment as a certificate lists it: its ends, cost and slope; the events' times, and a 1 for each that moves; the
-- activities' durations, the flows at their knees, and those on their crash durations
abbrev pub worked_segment : ℕ → ℕ → ℕ → ℕ → List ℕ → List ℕ → List ℕ → List (List ℕ) → List ℕ → Segment
worked_segment upper lower cost slope times bits durations flows besides = record {
  upper = upper;
  lower = lower;
  cost = cost;
  slope = slope;
  time = slice_index times;
  moves = λ e. nat_lt 0 (slice_index bits e);
  duration = slice_index durations;
  flow = λ a. slice_index (slice_index_or flows a []);
  beside = slice_index besides;
}

-- a point with a slope, and the last one
abbrev pub point : ℕ → ℕ → ℕ → Breakpoint
point limit cost slope = record { limit = limit; cost = cost; slope = Some slope }

abbrev pub last_point : ℕ → ℕ → Breakpoint
last_point limit cost = record { limit = limit; cost = cost; slope = None }

-- The small deck, in which the second unit saved of A costs 6: A has the knees 4 and 3, and its slope rises by 3 at
-- each

abbrev pub small_1 : Segment
small_1 = worked_segment 9 8 45 3 (0 ∷ 4 ∷ 9 ∷ []) (0 ∷ 1 ∷ 1 ∷ []) (4 ∷ 5 ∷ 7 ∷ []) ((3 ∷ 0 ∷ []) ∷ (3 ∷ []) ∷ (0 ∷ []) ∷ []) []

abbrev pub small_2 : Segment
small_2 = worked_segment 8 7 48 5 (0 ∷ 3 ∷ 8 ∷ []) (0 ∷ 0 ∷ 1 ∷ []) (3 ∷ 5 ∷ 7 ∷ []) ((3 ∷ 2 ∷ []) ∷ (5 ∷ []) ∷ (0 ∷ []) ∷ []) []

abbrev pub small_3 : Segment
small_3 = worked_segment 7 6 53 7 (0 ∷ 3 ∷ 7 ∷ []) (0 ∷ 0 ∷ 1 ∷ []) (3 ∷ 4 ∷ 7 ∷ []) ((3 ∷ 2 ∷ []) ∷ (5 ∷ []) ∷ (2 ∷ []) ∷ []) []

abbrev pub small_4 : Segment
small_4 = worked_segment 6 5 60 8 (0 ∷ 3 ∷ 6 ∷ []) (0 ∷ 1 ∷ 1 ∷ []) (3 ∷ 3 ∷ 6 ∷ []) ((3 ∷ 3 ∷ []) ∷ (5 ∷ []) ∷ (2 ∷ []) ∷ []) (0 ∷ 1 ∷ 0 ∷ [])

abbrev pub small_segments : List Segment
small_segments = small_1 ∷ small_2 ∷ small_3 ∷ small_4 ∷ []

-- The bridge: A from S to 1, B from S to 2, D from 1 to 2, E from 1 to T and F from 2 to T

-- events S = 0, 1, 2, T = 3 and activities A = 0, B = 1, D = 2, E = 3, F = 4
abbrev pub bridge_net : Network
bridge_net = record {
  events = 4;
  start = 0;
  end = 3;
  arcs =
      record { from = 0; to = 1 } ∷ record { from = 0; to = 2 } ∷ record { from = 1; to = 2 } ∷ record { from = 1; to = 3 }
      ∷ record { from = 2; to = 3 }
      ∷ [];
}

abbrev pub bridge_terms : List Term
bridge_terms =
    record { normal = 4; crash = 1; cost = 10; slope = 3 } ∷ record { normal = 6; crash = 5; cost = 10; slope = 9 }
    ∷ record { normal = 3; crash = 1; cost = 10; slope = 2 }
    ∷ record { normal = 6; crash = 5; cost = 10; slope = 9 }
    ∷ record { normal = 4; crash = 1; cost = 10; slope = 3 }
    ∷ []

-- D is shortened
abbrev pub bridge_1 : Segment
bridge_1 = worked_segment 11 10 50 2 (0 ∷ 4 ∷ 7 ∷ 11 ∷ []) (0 ∷ 0 ∷ 1 ∷ 1 ∷ []) (4 ∷ 6 ∷ 3 ∷ 6 ∷ 4 ∷ [])
    ((2 ∷ []) ∷ (0 ∷ []) ∷ (2 ∷ []) ∷ (0 ∷ []) ∷ (2 ∷ []) ∷ []) []

-- A and F are, and D gets its unit back
abbrev pub bridge_2 : Segment
bridge_2 = worked_segment 10 9 52 4 (0 ∷ 4 ∷ 6 ∷ 10 ∷ []) (0 ∷ 1 ∷ 0 ∷ 1 ∷ []) (4 ∷ 6 ∷ 2 ∷ 6 ∷ 4 ∷ [])
    ((3 ∷ []) ∷ (1 ∷ []) ∷ (2 ∷ []) ∷ (1 ∷ []) ∷ (3 ∷ []) ∷ []) []

-- A and F down to their crash durations
abbrev pub bridge_3 : Segment
bridge_3 = worked_segment 9 7 56 6 (0 ∷ 3 ∷ 6 ∷ 9 ∷ []) (0 ∷ 1 ∷ 0 ∷ 1 ∷ []) (3 ∷ 6 ∷ 3 ∷ 6 ∷ 3 ∷ [])
    ((3 ∷ []) ∷ (3 ∷ []) ∷ (0 ∷ []) ∷ (3 ∷ []) ∷ (3 ∷ []) ∷ []) []

-- B and E
abbrev pub bridge_4 : Segment
bridge_4 = worked_segment 7 6 68 18 (0 ∷ 1 ∷ 6 ∷ 7 ∷ []) (0 ∷ 0 ∷ 1 ∷ 1 ∷ []) (1 ∷ 6 ∷ 3 ∷ 6 ∷ 1 ∷ [])
    ((3 ∷ []) ∷ (9 ∷ []) ∷ (0 ∷ []) ∷ (9 ∷ []) ∷ (3 ∷ []) ∷ []) (6 ∷ 0 ∷ 0 ∷ 0 ∷ 6 ∷ [])

abbrev pub bridge_segments : List Segment
bridge_segments = bridge_1 ∷ bridge_2 ∷ bridge_3 ∷ bridge_4 ∷ []
