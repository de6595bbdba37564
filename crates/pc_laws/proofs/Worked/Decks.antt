-- Two decks worked by hand: the small deck with a second piece, and five activities whose curve gives one of them its
-- time back.
use Rattle.std.proofs.Common.{◌≡◌, ◌<◌, ◌≤◌, ℕ, zero, suc, List, [], ◌∷◌, true, inl, inr, refl, slice_index_or, arith}
use Rattle.pc_model.specs.Walk.{from_of, to_of, IsWalk, IsCycle}
use Rattle.pc_model.specs.Schedule.{normal_of, crash_of, AreTerms}
use Rattle.pc_model.specs.Cost.{Knees, one_knee, IsLeastCost, IsPriced}
use Rattle.pc_laws.specs.Segment.{Segment, StopsAtLower, IsSegment}
use Rattle.pc_laws.specs.Cover.{IsLong, IsCovering}
use Rattle.pc_laws.specs.Curve.{AreBreakpoints}
use Rattle.pc_laws.specs.Worked.{point, last_point, bridge_net, bridge_terms, bridge_1, bridge_2, bridge_3, bridge_4, bridge_segments, small_1, small_2, small_3, small_4, small_segments}
use Rattle.pc_model.specs.Pieces.{knees_of}
use Rattle.pc_model.specs.Worked.{small_net, small_terms, small_pieces}
use Rattle.pc_model.proofs.Costs.PieceLaws.{one_knee_fits}
use Rattle.pc_laws.proofs.Curves.Points.{covering_points}
use Rattle.pc_laws.proofs.Worked.Checks.{each4, passes, whole_from}
use Rattle.pc_model.proofs.Worked.SmallDeck.{each3, small_priced}

-- The small deck

abbrev small_knees : Knees
small_knees = knees_of small_terms small_pieces

-- a segment that passes the tests, with an activity that stops
whole_small : (seg : Segment) → passes small_net small_terms small_knees seg ≡ true → StopsAtLower small_net small_terms small_knees seg →
    IsSegment small_net small_terms small_knees seg
whole_small seg = whole_from small_net small_terms small_knees seg small_priced

-- the four segments cover the range from 9 to 5 units
pub small_covering : IsCovering small_net small_terms small_knees small_segments 9 5
small_covering = record {
  front = record {
    each = λ k d. each4 (λ j. IsSegment small_net small_terms small_knees (slice_index_or small_segments j d))
        (whole_small small_1 refl (0, omega arith, inr (1, omega arith, inl (record { forward = refl; above = omega arith; at_knee = refl }))))
        (whole_small small_2 refl (2, omega arith, inr (0, omega arith, inl (record { forward = refl; above = omega arith; at_knee = refl }))))
        (whole_small small_3 refl (1, omega arith, inl (record { forward = refl; at_crash = refl })))
        (whole_small small_4 refl (0, omega arith, inl (record { forward = refl; at_crash = refl }))) k;
    joined = (refl, (refl, (refl, (refl, refl))));
    long = λ more k d. each4 (λ j. IsLong (slice_index_or small_segments j d)) (omega arith) (omega arith) (omega arith) (omega arith) k;
    normal = each3 (λ a. small_1.duration a ≡ normal_of small_terms a) refl refl refl;
    normal_walk = (0 ∷ 1 ∷ [], (omega arith, refl, (omega arith, refl, refl)), refl);
  };
  crash_walk = (2 ∷ [], (omega arith, refl, refl), refl);
}

-- so these are its breakpoints
pub small_points : AreBreakpoints (IsLeastCost small_net small_terms small_knees) 5 9 (point 9 45 3 ∷ point 8 48 5 ∷ point 7 53 7 ∷ point 6 60 8 ∷ last_point 5 68 ∷ [])
small_points = covering_points small_net small_terms small_knees small_segments 9 5 small_priced small_covering

-- The bridge

-- and so below 5
each5 : (P : ℕ → Type 0) → P 0 → P 1 → P 2 → P 3 → P 4 → (a : ℕ) → a < 5 → P a
each5 P p q r s t zero below = p
each5 P p q r s t (suc a) below = each4 (λ b. P (suc b)) q r s t a (omega arith)

-- each activity leads to an event of a higher number
rises : (a : ℕ) → a < 5 → from_of bridge_net.arcs a < to_of bridge_net.arcs a
rises = each5 (λ a. from_of bridge_net.arcs a < to_of bridge_net.arcs a) (omega arith) (omega arith) (omega arith) (omega arith) (omega arith)

-- so no walk comes back
climbs : (walk : List ℕ) (e f : ℕ) → IsWalk bridge_net.arcs e walk f → e ≤ f
climbs [] e f at = omega (arith, at)
climbs (a ∷ walk) e f (inside, from, rest) = omega (arith, from, rises a inside, climbs walk (to_of bridge_net.arcs a) f rest)

no_cycle : (walk : List ℕ) → IsCycle bridge_net.arcs walk → ⊥
no_cycle [] (some, around) = some refl
no_cycle (a ∷ walk) (some, (e, (inside, from, rest))) = omega (arith, from, rises a inside, climbs walk (to_of bridge_net.arcs a) e rest)

sized : AreTerms bridge_net bridge_terms
sized = record {
  one_each = refl;
  ordered = each5 (λ a. crash_of bridge_terms a ≤ normal_of bridge_terms a) (omega arith) (omega arith) (omega arith) (omega arith) (omega arith);
}

abbrev bridge_knees : Knees
bridge_knees = one_knee bridge_terms

-- the deck is a priced network
pub bridge_priced : IsPriced bridge_net bridge_terms bridge_knees
bridge_priced = record {
  range = record {
    start_in = omega arith;
    end_in = omega arith;
    apart = λ same. omega arith;
    from_in = each5 (λ a. from_of bridge_net.arcs a < 4) (omega arith) (omega arith) (omega arith) (omega arith) (omega arith);
    to_in = each5 (λ a. to_of bridge_net.arcs a < 4) (omega arith) (omega arith) (omega arith) (omega arith) (omega arith);
    not_looped = λ a inside same. omega (arith, same, rises a inside);
  };
  sound = record {
    not_entered = λ (a, inside, ends). each5 (λ a. to_of bridge_net.arcs a ≡ 0 → ⊥) (λ e. omega arith) (λ e. omega arith) (λ e. omega arith) (λ e. omega arith) (λ e. omega arith) a inside ends;
    not_left = λ (a, inside, begins). each5 (λ a. from_of bridge_net.arcs a ≡ 3 → ⊥) (λ e. omega arith) (λ e. omega arith) (λ e. omega arith) (λ e. omega arith) (λ e. omega arith) a inside begins;
    reached = each4 (λ e. (walk : List ℕ) × IsWalk bridge_net.arcs 0 walk e) ([], refl) (0 ∷ [], (omega arith, refl, refl)) (1 ∷ [], (omega arith, refl, refl))
        (0 ∷ 3 ∷ [], (omega arith, refl, (omega arith, refl, refl)));
    reaches = each4 (λ e. (walk : List ℕ) × IsWalk bridge_net.arcs e walk 3) (0 ∷ 3 ∷ [], (omega arith, refl, (omega arith, refl, refl))) (3 ∷ [], (omega arith, refl, refl))
        (4 ∷ [], (omega arith, refl, refl)) ([], refl);
    no_cycle = no_cycle;
  };
  terms_fit = sized;
  knees_fit = one_knee_fits bridge_net bridge_terms sized;
}

-- a segment that passes the tests, with an activity that stops
whole_bridge : (seg : Segment) → passes bridge_net bridge_terms bridge_knees seg ≡ true → StopsAtLower bridge_net bridge_terms bridge_knees seg →
    IsSegment bridge_net bridge_terms bridge_knees seg
whole_bridge seg = whole_from bridge_net bridge_terms bridge_knees seg bridge_priced

-- the four segments cover the range from 11 to 6 units; the second ends where D, which is backward, has its normal
-- duration again
pub bridge_covering : IsCovering bridge_net bridge_terms bridge_knees bridge_segments 11 6
bridge_covering = record {
  front = record {
    each = λ k d. each4 (λ j. IsSegment bridge_net bridge_terms bridge_knees (slice_index_or bridge_segments j d))
        (whole_bridge bridge_1 refl (1, omega arith, inr (0, omega arith, inl (record { forward = refl; above = omega arith; at_knee = refl }))))
        (whole_bridge bridge_2 refl (2, omega arith, inr (0, omega arith, inr (record { backward = refl; below = omega arith; at_knee = refl }))))
        (whole_bridge bridge_3 refl (0, omega arith, inl (record { forward = refl; at_crash = refl })))
        (whole_bridge bridge_4 refl (1, omega arith, inl (record { forward = refl; at_crash = refl }))) k;
    joined = (refl, (refl, (refl, (refl, refl))));
    long = λ more k d. each4 (λ j. IsLong (slice_index_or bridge_segments j d)) (omega arith) (omega arith) (omega arith) (omega arith) k;
    normal = each5 (λ a. bridge_1.duration a ≡ normal_of bridge_terms a) refl refl refl refl refl;
    normal_walk = (0 ∷ 2 ∷ 4 ∷ [], (omega arith, refl, (omega arith, refl, (omega arith, refl, refl))), refl);
  };
  crash_walk = (1 ∷ 4 ∷ [], (omega arith, refl, (omega arith, refl, refl)), refl);
}

-- so these are its breakpoints
pub bridge_points : AreBreakpoints (IsLeastCost bridge_net bridge_terms bridge_knees) 6 11 (point 11 50 2 ∷ point 10 52 4 ∷ point 9 56 6 ∷ point 7 68 18 ∷ last_point 6 86 ∷ [])
bridge_points = covering_points bridge_net bridge_terms bridge_knees bridge_segments 11 6 bridge_priced bridge_covering
