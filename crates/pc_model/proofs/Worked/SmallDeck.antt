-- The small deck worked through by hand, to see that the vocabulary means what it should.
use Rattle.std.proofs.Common.{◌≡◌, ◌≢◌, ℕ, ◌+◌, ◌<◌, ◌≤◌, zero, suc, List, [], ◌∷◌, length, slice_index, refl, arith}
use Rattle.std.specs.Prelude.{slice_index_or}
use Rattle.pc_model.specs.declared.limits.TheConstants.{MAX_PIECES_EACH}
use Rattle.pc_model.specs.Greatest.{StandsBelow}
use Rattle.pc_model.specs.Walk.{from_of, to_of, IsWalk}
use Rattle.pc_model.specs.Network.{IsInRange, IsSound, IsOrder}
use Rattle.pc_model.specs.Schedule.{term_at, normals, crashes, normal_of, crash_of, AreTerms, IsSchedule, IsAllNormalLength, IsAllCrashLength}
use Rattle.pc_model.specs.Cost.{IsPriced, IsLeastCost}
use Rattle.pc_model.specs.Pieces.{pieces_of, units_of, slope_in, knees_of, ArePieces}
use Rattle.pc_model.specs.Worked.{small_net, small_terms, small_pieces}
use Rattle.pc_model.proofs.Costs.PieceLaws.{pieces_fit}
use Rattle.pc_model.proofs.Walks.WalkLaws.{times_bound_walk}
use Rattle.pc_model.proofs.Walks.OrderLaws.{no_cycle_from_order}

-- what holds at 0, 1 and 2 holds below 3
pub each3 : (P : ℕ → Type 0) → P 0 → P 1 → P 2 → (a : ℕ) → a < 3 → P a
each3 P p q r zero below = p
each3 P p q r (suc zero) below = q
each3 P p q r (suc (suc zero)) below = r
each3 P p q r (suc (suc (suc a))) below = absurd (omega arith)

-- the deck names no unknown event, and no activity begins where it ends
pub small_in_range : IsInRange small_net
small_in_range = record {
  start_in = omega arith;
  end_in = omega arith;
  apart = λ same. omega arith;
  from_in = each3 (λ a. from_of small_net.arcs a < 3) (omega arith) (omega arith) (omega arith);
  to_in = each3 (λ a. to_of small_net.arcs a < 3) (omega arith) (omega arith) (omega arith);
  not_looped = each3 (λ a. from_of small_net.arcs a ≢ to_of small_net.arcs a) (λ e. omega arith) (λ e. omega arith) (λ e. omega arith);
}

-- S, M, T is an order of its events
pub small_order : IsOrder small_net (0 ∷ 1 ∷ 2 ∷ [])
small_order = record { part = record { range = range; once = once; before = before }; whole = refl }
  where
    place : (k : ℕ) → k < 3 → slice_index (0 ∷ 1 ∷ 2 ∷ []) k ≡ k
    place = each3 (λ k. slice_index (0 ∷ 1 ∷ 2 ∷ []) k ≡ k) refl refl refl

    range : (k : ℕ) → k < 3 → slice_index (0 ∷ 1 ∷ 2 ∷ []) k < 3
    range k below = omega (arith, place k below)

    once : (j k : ℕ) → j < k → k < 3 → slice_index (0 ∷ 1 ∷ 2 ∷ []) j ≢ slice_index (0 ∷ 1 ∷ 2 ∷ []) k
    once j k lower below = λ same. omega (arith, place j (omega arith), place k below)

    before : (k a : ℕ) → k < 3 → a < 3 → to_of small_net.arcs a ≡ slice_index (0 ∷ 1 ∷ 2 ∷ []) k → StandsBelow (0 ∷ 1 ∷ 2 ∷ []) k (from_of small_net.arcs a)
    before k zero below in_list ends = (0, omega (arith, place k below), refl)
    before k (suc zero) below in_list ends = (1, omega (arith, place k below), refl)
    before k (suc (suc zero)) below in_list ends = (0, omega (arith, place k below), refl)
    before k (suc (suc (suc a))) below in_list ends = absurd (omega arith)

-- the deck is sound
pub small_sound : IsSound small_net
small_sound = record {
  not_entered = λ (a, below, ends). each3 (λ a. to_of small_net.arcs a ≡ 0 → ⊥) (λ e. omega arith) (λ e. omega arith) (λ e. omega arith) a below ends;
  not_left = λ (a, below, begins). each3 (λ a. from_of small_net.arcs a ≡ 2 → ⊥) (λ e. omega arith) (λ e. omega arith) (λ e. omega arith) a below begins;
  reached = each3 (λ e. (walk : List ℕ) × IsWalk small_net.arcs 0 walk e) ([], refl) (0 ∷ [], (omega arith, refl, refl)) (2 ∷ [], (omega arith, refl, refl));
  reaches = each3 (λ e. (walk : List ℕ) × IsWalk small_net.arcs e walk 2) (2 ∷ [], (omega arith, refl, refl)) (1 ∷ [], (omega arith, refl, refl)) ([], refl);
  no_cycle = no_cycle_from_order small_net (0 ∷ 1 ∷ 2 ∷ []) small_in_range small_order;
}

-- each activity has a term
pub small_are_terms : AreTerms small_net small_terms
small_are_terms = record {
  one_each = refl;
  ordered = each3 (λ a. crash_of small_terms a ≤ normal_of small_terms a) (omega arith) (omega arith) (omega arith);
}

-- the further piece is one of A, dearer than its first slope, and leaves one of its two units to it
pub small_are_pieces : ArePieces small_terms small_pieces
small_are_pieces = record { named = named; few = few; rising = rising; leaving = leaving }
  where
    named : (i : ℕ) → i < 1 → (slice_index_or small_pieces i (record { activity = 0; units = 0; slope = 0 })).activity < 3
    named zero below = omega arith
    named (suc i) below = absurd (omega arith)

    few : (a : ℕ) → a < 3 → length (pieces_of small_pieces a) ≤ MAX_PIECES_EACH
    few = each3 (λ a. length (pieces_of small_pieces a) ≤ MAX_PIECES_EACH) (omega arith) (omega arith) (omega arith)

    rising : (a k : ℕ) → a < 3 → k < length (pieces_of small_pieces a) →
        slope_in (term_at small_terms a) (pieces_of small_pieces a) k < slope_in (term_at small_terms a) (pieces_of small_pieces a) (k + 1)
    rising zero zero below inside = omega arith
    rising zero (suc k) below inside = absurd (omega arith)
    rising (suc zero) k below inside = absurd (omega arith)
    rising (suc (suc zero)) k below inside = absurd (omega arith)
    rising (suc (suc (suc a))) k below inside = absurd (omega arith)

    leaving : (a : ℕ) → a < 3 → 0 < length (pieces_of small_pieces a) →
        crash_of small_terms a + units_of (pieces_of small_pieces a) < normal_of small_terms a
    leaving = each3 (λ a. 0 < length (pieces_of small_pieces a) → crash_of small_terms a + units_of (pieces_of small_pieces a) < normal_of small_terms a)
        (λ some. omega arith) (λ some. omega arith) (λ some. omega arith)

-- so the deck is a priced network
pub small_priced : IsPriced small_net small_terms (knees_of small_terms small_pieces)
small_priced = record {
  range = small_in_range;
  sound = small_sound;
  terms_fit = small_are_terms;
  knees_fit = pieces_fit small_net small_terms small_pieces small_are_terms small_are_pieces;
}

-- the times at the normal durations: S at 0, M at 4, T at 9
abbrev pub small_times : ℕ → ℕ
small_times = slice_index (0 ∷ 4 ∷ 9 ∷ [])

-- at the normal durations the project takes 9 units
pub small_all_normal : IsAllNormalLength small_net small_terms 9
small_all_normal = record {
  attained = (0 ∷ 1 ∷ [], (omega arith, refl, (omega arith, refl, refl)), refl);
  bound = λ n (walk, walked, sums). omega (arith, times_bound_walk small_net.arcs (normals small_terms) small_times fits 0 2 walk walked);
}
  where
    fits : (a : ℕ) → a < 3 → small_times (from_of small_net.arcs a) + slice_index (normals small_terms) a ≤ small_times (to_of small_net.arcs a)
    fits = each3 (λ a. small_times (from_of small_net.arcs a) + slice_index (normals small_terms) a ≤ small_times (to_of small_net.arcs a)) (omega arith) (omega arith) (omega arith)

-- at the crash durations it takes 5 units
pub small_all_crash : IsAllCrashLength small_net small_terms 5
small_all_crash = record {
  attained = (2 ∷ [], (omega arith, refl, refl), refl);
  bound = λ n (walk, walked, sums). omega (arith, times_bound_walk small_net.arcs (crashes small_terms) (slice_index (0 ∷ 2 ∷ 5 ∷ [])) fits 0 2 walk walked);
}
  where
    fits : (a : ℕ) → a < 3 → slice_index (0 ∷ 2 ∷ 5 ∷ []) (from_of small_net.arcs a) + slice_index (crashes small_terms) a ≤ slice_index (0 ∷ 2 ∷ 5 ∷ []) (to_of small_net.arcs a)
    fits = each3 (λ a. slice_index (0 ∷ 2 ∷ 5 ∷ []) (from_of small_net.arcs a) + slice_index (crashes small_terms) a
        ≤ slice_index (0 ∷ 2 ∷ 5 ∷ []) (to_of small_net.arcs a)) (omega arith) (omega arith) (omega arith)

-- the normal durations with these times are a schedule for 9 units
pub small_schedule : IsSchedule small_net small_terms 9 (normal_of small_terms) small_times
small_schedule = record {
  enough = small_are_terms.ordered;
  within = λ a below. omega arith;
  starts = refl;
  fits = each3 (λ a. small_times (from_of small_net.arcs a) + normal_of small_terms a ≤ small_times (to_of small_net.arcs a)) (omega arith) (omega arith) (omega arith);
  ends = omega arith;
}

-- it costs 45, and no schedule for 9 units costs less
pub small_least_cost : IsLeastCost small_net small_terms (knees_of small_terms small_pieces) 9 45
small_least_cost = record {
  reached = (normal_of small_terms, small_times, small_schedule, refl);
  least = λ durations times scheduled. omega arith;
}

-- one unit sooner costs 48: A is shortened, the cheaper of the two on the only critical path
pub small_least_cost_at_8 : IsLeastCost small_net small_terms (knees_of small_terms small_pieces) 8 48
small_least_cost_at_8 = record {
  reached = (slice_index (3 ∷ 5 ∷ 7 ∷ []), slice_index (0 ∷ 3 ∷ 8 ∷ []), scheduled, refl);
  least = λ durations times s.
      omega (arith, s.starts, s.ends, s.fits 0 (omega arith), s.fits 1 (omega arith), s.within 0 (omega arith));
}
  where
    scheduled : IsSchedule small_net small_terms 8 (slice_index (3 ∷ 5 ∷ 7 ∷ [])) (slice_index (0 ∷ 3 ∷ 8 ∷ []))
    scheduled = record {
      enough = each3 (λ a. crash_of small_terms a ≤ slice_index (3 ∷ 5 ∷ 7 ∷ []) a) (omega arith) (omega arith) (omega arith);
      within = each3 (λ a. slice_index (3 ∷ 5 ∷ 7 ∷ []) a ≤ normal_of small_terms a) (omega arith) (omega arith) (omega arith);
      starts = refl;
      fits = each3 (λ a. slice_index (0 ∷ 3 ∷ 8 ∷ []) (from_of small_net.arcs a) + slice_index (3 ∷ 5 ∷ 7 ∷ []) a
          ≤ slice_index (0 ∷ 3 ∷ 8 ∷ []) (to_of small_net.arcs a)) (omega arith) (omega arith) (omega arith);
      ends = omega arith;
    }
