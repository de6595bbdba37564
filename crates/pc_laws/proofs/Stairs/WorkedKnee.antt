-- The state with A at its middle knee, worked by hand.
use Rattle.std.proofs.Common.{◌≡◌, ◌≢◌, [], ◌∷◌, slice_index, ◌+◌, ◌<◌, ◌≤◌, inl, refl, true, arith}
use Rattle.pc_model.specs.Walk.{from_of, to_of}
use Rattle.pc_model.specs.Schedule.{gap_of}
use Rattle.pc_model.specs.Pieces.{knees_of}
use Rattle.pc_model.specs.Worked.{small_net, small_terms, small_pieces}
use Rattle.pc_model.proofs.Worked.SmallDeck.{each3}
use Rattle.pc_laws.specs.Flow.{inflow, outflow}
use Rattle.pc_laws.specs.Segment.{is_forward, is_backward}
use Rattle.pc_laws.specs.Stair.{stair_of, IsOnStair}
use Rattle.pc_laws.specs.Steps.{next_unit, last_unit, IsStairOptimal, IsStairStuck, IsStairFall}
use Rattle.pc_laws.specs.Worked.{small_2}

pub middle_state : IsStairOptimal small_net small_terms (knees_of small_terms small_pieces) 8 small_2.time (slice_index (5 ∷ 5 ∷ 0 ∷ [])) 5
middle_state = record {
  starts = refl;
  ends = refl;
  ahead = each3 (λ a. small_2.time (from_of small_net.arcs a) ≤ small_2.time (to_of small_net.arcs a)) (omega arith) (omega arith) (omega arith);
  on_stair = each3 (λ a. IsOnStair (stair_of small_terms (knees_of small_terms small_pieces) a) (gap_of small_net.arcs small_2.time a) ((slice_index (5 ∷ 5 ∷ 0 ∷ [])) a))
      (record { next = omega arith; last = λ some. omega arith })
      (record { next = omega arith; last = λ some. omega arith })
      (record { next = omega arith; last = λ some. omega arith });
  conserved = each3 (λ e. e ≢ 0 → e ≢ 2 → inflow small_net (slice_index (5 ∷ 5 ∷ 0 ∷ [])) e ≡ outflow small_net (slice_index (5 ∷ 5 ∷ 0 ∷ [])) e)
      (λ not_start not_end. absurd (not_start refl)) (λ not_start not_end. refl) (λ not_start not_end. absurd (not_end refl));
  leaves = refl;
}

pub middle_stuck : IsStairStuck small_net small_terms (knees_of small_terms small_pieces) small_2.time (slice_index (5 ∷ 5 ∷ 0 ∷ [])) small_2.moves
middle_stuck = record {
  start_rests = refl;
  end_moves = refl;
  forward = each3 (λ a. is_forward small_net.arcs small_2.moves a ≡ true →
      next_unit small_terms (knees_of small_terms small_pieces) (slice_index (5 ∷ 5 ∷ 0 ∷ [])) a < gap_of small_net.arcs small_2.time a)
      (λ forward. absurd (cc)) (λ forward. omega arith) (λ forward. omega arith);
  backward = each3 (λ a. is_backward small_net.arcs small_2.moves a ≡ true → 0 < (slice_index (5 ∷ 5 ∷ 0 ∷ [])) a →
      gap_of small_net.arcs small_2.time a < last_unit small_terms (knees_of small_terms small_pieces) (slice_index (5 ∷ 5 ∷ 0 ∷ [])) a)
      (λ backward. absurd (cc)) (λ backward. absurd (cc)) (λ backward. absurd (cc));
}

pub middle_fall : IsStairFall small_net small_terms (knees_of small_terms small_pieces) small_2.time (slice_index (5 ∷ 5 ∷ 0 ∷ [])) small_2.moves 1
middle_fall = record {
  stuck = middle_stuck;
  stops = (2, omega arith, inl (record { forward = refl; meets = refl }));
  least = record {
    forward = each3 (λ a. is_forward small_net.arcs small_2.moves a ≡ true →
        next_unit small_terms (knees_of small_terms small_pieces) (slice_index (5 ∷ 5 ∷ 0 ∷ [])) a + 1
        ≤ gap_of small_net.arcs small_2.time a)
        (λ forward. absurd (cc)) (λ forward. omega arith) (λ forward. omega arith);
    backward = each3 (λ a. is_backward small_net.arcs small_2.moves a ≡ true → 0 < (slice_index (5 ∷ 5 ∷ 0 ∷ [])) a →
        gap_of small_net.arcs small_2.time a + 1
        ≤ last_unit small_terms (knees_of small_terms small_pieces) (slice_index (5 ∷ 5 ∷ 0 ∷ [])) a)
        (λ backward. absurd (cc)) (λ backward. absurd (cc)) (λ backward. absurd (cc));
  };
}
