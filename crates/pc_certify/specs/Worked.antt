-- Certificates of the small deck, worked by hand: with activities of one slope, and where the second unit saved of A costs
-- 6.
use Rattle.std.specs.Prelude.{List, ℕ, [], ◌∷◌, ◌++◌, codes}
use Rattle.std.specs.List.{flat_map}
use Rattle.pc_model.specs.Worked.{small_net, small_terms, small_pieces}
use Rattle.pc_laws.specs.Segment.{Segment}
use Rattle.pc_laws.specs.Worked.{worked_segment}
use Rattle.pc_crash.specs.Priced.{PricedNetwork}

-- the deck with one slope each
abbrev pub small_deck : PricedNetwork
small_deck = record {
  network = small_net;
  terms = small_terms;
  pieces = [];
  project = codes "E1";
  events = codes "S" ∷ codes "M" ∷ codes "T" ∷ [];
  activities = codes "A" ∷ codes "B" ∷ codes "C" ∷ [];
}

-- and with the further piece
abbrev pub small_deck_in_pieces : PricedNetwork
small_deck_in_pieces = record small_deck { pieces = small_pieces }

-- the walk along A and B
abbrev pub along_a_and_b : List ℕ
along_a_and_b = 0 ∷ 1 ∷ []

-- its two segments with one slope each
abbrev pub upper_segment : Segment
upper_segment = worked_segment 9 7 45 3 (0 ∷ 4 ∷ 9 ∷ []) (0 ∷ 1 ∷ 1 ∷ []) (4 ∷ 5 ∷ 7 ∷ []) ((3 ∷ []) ∷ (3 ∷ []) ∷ (0 ∷ []) ∷ []) []

abbrev pub lower_segment : Segment
lower_segment = worked_segment 7 5 51 7 (0 ∷ 2 ∷ 7 ∷ []) (0 ∷ 0 ∷ 1 ∷ []) (2 ∷ 5 ∷ 7 ∷ []) ((3 ∷ []) ∷ (5 ∷ []) ∷ (2 ∷ []) ∷ []) (2 ∷ 0 ∷ 0 ∷ [])

-- the text with these lines
abbrev pub text_with : List (List ℕ) → List ℕ
text_with lines = flat_map (λ line. line ++ 10 ∷ []) lines

-- the head of both
abbrev pub walks_text : List (List ℕ)
walks_text = codes "NORMAL" ∷ codes "STEP A" ∷ codes "STEP B" ∷ codes "CRASH" ∷ codes "STEP A" ∷ codes "STEP B" ∷ []

-- the certificate of the first
abbrev pub small_certificate : List ℕ
small_certificate =
    text_with (codes "CERT 1 E1 3 3" ∷ [])
    ++ text_with walks_text
    ++ text_with (codes "SEGMENT 9 7 45 3" ∷ codes "EVENT S 0 0" ∷ codes "EVENT M 4 1" ∷ codes "EVENT T 9 1" ∷ codes "ACT A 4 3 0" ∷ codes "ACT B 5 3 0" ∷ codes "ACT C 7 0 0" ∷ codes "CLOSE" ∷ [])
    ++ text_with (codes "SEGMENT 7 5 51 7" ∷ codes "EVENT S 0 0" ∷ codes "EVENT M 2 0" ∷ codes "EVENT T 7 1" ∷ codes "ACT A 2 3 2" ∷ codes "ACT B 5 5 0" ∷ codes "ACT C 7 2 0" ∷ codes "CLOSE" ∷ [])
    ++ text_with (codes "END" ∷ [])

-- that of the second down to the end of its first segment
abbrev pub begun_in_pieces : List ℕ
begun_in_pieces =
    text_with (codes "CERT 2 E1 3 3" ∷ [])
    ++ text_with walks_text
    ++ text_with (codes "SEGMENT 9 8 45 3" ∷ codes "EVENT S 0 0" ∷ codes "EVENT M 4 1" ∷ codes "EVENT T 9 1" ∷ codes "ACT A 4 3 0 0" ∷ codes "ACT B 5 3 0" ∷ codes "ACT C 7 0 0" ∷ codes "CLOSE" ∷ [])
