-- The first state, at the normal durations; and the complete curve, if that state is as short as the crash durations
-- allow.
use Rattle.std.proofs.Common.{◌≡◌, ◌≤◌, ◌<◌, ◌+◌, ℕ, List, [], ◌∷◌, length, ap, arith, refl, sym, ◌∙◌, subst}
use Rattle.std.specs.Prelude.{◌==◌, if◌then◌else◌}
use Rattle.std.proofs.lemmas.Bool.{cond_both}
use Rattle.pc_model.specs.declared.Term.{Term}
use Rattle.pc_model.specs.Sums.{at_event}
use Rattle.pc_model.specs.Walk.{from_of, to_of, IsWalk}
use Rattle.pc_model.specs.Network.{Network}
use Rattle.pc_model.specs.Schedule.{normal_of, IsSchedule, IsAllCrashLength, lesser_of}
use Rattle.pc_model.specs.Cost.{Knees, cost_of, IsLeastCost, IsPriced}
use Rattle.pc_laws.specs.Flow.{whole_flow}
use Rattle.pc_laws.specs.Tight.{IsTight}
use Rattle.pc_laws.specs.Segment.{IsSegment}
use Rattle.pc_laws.specs.State.{State, IsOptimal, opening, rests, segment_of}
use Rattle.pc_model.proofs.Sums.{sum_to-zero}
use Rattle.pc_laws.proofs.Segments.Falls.{tight_shifted}
use Rattle.pc_laws.proofs.Flows.Duality.{tight_schedule, tight_least}
use Rattle.pc_model.proofs.Schedules.Shortest.{shortest_below_schedule}
use Rattle.pc_model.proofs.Costs.PieceLaws.{knee-normal}

-- nothing flows at an event if nothing flows at a knee or on the crash duration
none_at : (knees : Knees) (m : ℕ) (place : ℕ → ℕ) (e : ℕ) → at_event m place (whole_flow knees (λ a k. 0) (λ a. 0)) e ≡ 0
none_at knees m place e =
    sum_to-zero m (λ a. if place a == e then whole_flow knees (λ a k. 0) (λ a. 0) a else 0)
    (λ a l. cond_both (place a == e) (whole_flow knees (λ a k. 0) (λ a. 0) a) 0 (λ x. x ≡ 0)
    (λ is. omega (arith, sum_to-zero (knees.count a) (λ k. 0) (λ k below. refl))) (λ isnt. refl))

-- the longest durations that the times of a schedule at the normal durations allow are the normal ones
pub normal_lesser : (net : Network) (terms : List Term) (limit : ℕ) (times : ℕ → ℕ) → IsSchedule net terms limit (normal_of terms) times →
    (a : ℕ) → a < length net.arcs → lesser_of net terms times a ≡ normal_of terms a
normal_lesser net terms limit times schedule a l = let fits = schedule.fits a l in omega arith

module _ (net : Network) (terms : List Term) (knees : Knees) (limit : ℕ) (times : ℕ → ℕ) (priced : IsPriced net terms knees)
    (schedule : IsSchedule net terms limit (normal_of terms) times) (ends : times net.end ≡ limit) where
  -- what holds between two labellings holds at the normal durations, if the times end with the length
  pub optimal_opening : IsOptimal net terms knees (opening limit times)
  optimal_opening = record {
    tight = record {
      starts = schedule.starts;
      tight = λ a l.
          let fits = schedule.fits a l in
          let low = schedule.enough a l in
          record {
            room = omega arith;
            slack = record {
              at_knees = λ k below. record { above = λ far. refl; below = λ near. absurd (omega (arith, knee-normal net terms knees priced.knees_fit a k l below)) };
              above_crash = λ far. refl;
            };
          };
    };
    ends = ends;
    flow = record {
      capacity = λ a k l below. omega arith;
      conserved = λ e l ns ne. none_at knees (length net.arcs) (to_of net.arcs) e ∙ sym (none_at knees (length net.arcs) (from_of net.arcs) e);
      leaves = none_at knees (length net.arcs) (from_of net.arcs) net.start;
    };
  }

  -- a segment of only this length is complete
  pub level_segment : IsSegment net terms knees (segment_of net terms knees (opening limit times) rests 0)
  level_segment = record {
    right = record {
      ends = record { start_time = schedule.starts; start_rests = refl; end_time = ends; end_moves = λ l. absurd (omega arith) };
      room_at_upper = λ a l. (tight_still a l).room;
      room_at_lower = λ a l. (tight_still a l).room;
      durations = λ a l. refl;
      capacity = λ a k l below. omega arith;
      conserved = optimal_opening.flow.conserved;
      leaves = optimal_opening.flow.leaves;
      slack_at_upper = λ a l. (tight_still a l).slack;
      slack_at_lower = λ a l. (tight_still a l).slack;
      costs = refl;
      proper = record {
        ordered = omega arith;
        degenerate = λ same. record { flat = refl; rests = λ e l. refl; empty = λ a k l below. refl; empty_beside = λ a l. refl };
      };
    };
    cut = λ l. absurd (omega arith);
    stops = λ l. absurd (omega arith);
  }
    where
      tight_still : (a : ℕ) → a < length net.arcs → IsTight terms knees a (times (from_of net.arcs a) + 0) (times (to_of net.arcs a) + 0) (λ k. 0) 0
      tight_still a l =
          tight_shifted terms knees a (times (from_of net.arcs a)) (times (to_of net.arcs a)) (times (from_of net.arcs a) + 0) (times (to_of net.arcs a) + 0) (λ k. 0) 0
          (omega arith) (optimal_opening.tight.tight a l)

module _ (net : Network) (terms : List Term) (knees : Knees) (st : State) (priced : IsPriced net terms knees) (optimal : IsOptimal net terms knees st) where
  -- the durations that the times allow are a schedule for the present length
  pub optimal_schedule : IsSchedule net terms st.limit (lesser_of net terms st.time) st.time
  optimal_schedule =
      subst (λ n. IsSchedule net terms n (lesser_of net terms st.time) st.time) optimal.ends
      (tight_schedule net terms knees priced st.flow st.beside st.value optimal.flow st.time optimal.tight)

  -- a cheapest one
  pub optimal_is_least : IsLeastCost net terms knees st.limit (cost_of terms knees (lesser_of net terms st.time))
  optimal_is_least =
      subst (λ n. IsLeastCost net terms knees n (cost_of terms knees (lesser_of net terms st.time))) optimal.ends
      (tight_least net terms knees priced st.flow st.beside st.value optimal.flow st.time optimal.tight)

  -- no event is later than the end
  pub times_within : (e : ℕ) → e < net.events → st.time e ≤ st.limit
  times_within e l =
      let (walk, walked) = priced.sound.reaches e l in
      omega (arith, optimal.ends, rises_along walk e net.end walked)
    where
      rises_along : (walk : List ℕ) (e f : ℕ) → IsWalk net.arcs e walk f → st.time e ≤ st.time f
      rises_along [] e f at = omega (arith, ap st.time at)
      rises_along (a ∷ walk) e f (inside, from, rest) =
          let room = (optimal.tight.tight a inside).room in
          omega (arith, room, ap st.time from, rises_along walk (to_of net.arcs a) f rest)

-- the present length is not below the all-crash length
pub within_range : (net : Network) (terms : List Term) (knees : Knees) (st : State) (shortest : ℕ) → IsPriced net terms knees →
    IsOptimal net terms knees st → IsAllCrashLength net terms shortest → shortest ≤ st.limit
within_range net terms knees st shortest priced optimal longest =
    shortest_below_schedule net terms shortest st.limit priced.terms_fit longest
    (lesser_of net terms st.time, st.time, optimal_schedule net terms knees st priced optimal)
