-- What follows for a state with total flows from the laws of states at knees: the first state, bounds, and the segment
-- and the state after a step of the times.
use Rattle.std.proofs.Common.{◌≡◌, ◌⊎◌, List, length, ℕ, ◌+◌, ◌-◌, ◌*◌, ◌<◌, ◌≤◌, ◌==◌, Bool, true, false, inl, inr, refl, sym, ◌∙◌, subst, arith}
use Rattle.std.specs.Prelude.{if◌then◌else◌}
use Rattle.pc_model.specs.declared.Term.{Term}
use Rattle.pc_model.specs.Sums.{sum_to, at_event}
use Rattle.pc_model.proofs.Sums.{sum_to-zero}
use Rattle.pc_model.specs.Walk.{from_of, to_of}
use Rattle.pc_model.specs.Network.{Network, IsOrder}
use Rattle.pc_model.specs.Schedule.{normal_of, gap_of, lesser_of, IsSchedule, IsAllCrashLength}
use Rattle.pc_model.specs.Cost.{Knees, cost_of, last_slope, IsLeastCost, IsPriced}
use Rattle.pc_laws.specs.Flow.{whole_flow}
use Rattle.pc_laws.specs.Tight.{IsTight}
use Rattle.pc_laws.specs.Segment.{fall_of, head_at, tail_at, IsSegment}
use Rattle.pc_laws.specs.State.{IsOptimal, IsFall, segment_of, fallen}
use Rattle.pc_laws.specs.Stair.{IsFalling, stair_of, IsOnStair, knee_flow, crash_flow}
use Rattle.pc_laws.specs.Steps.{IsStairOptimal, filled_state, IsStairStuck, HasStop, HasNoStopBefore, IsStairFall}
use Rattle.pc_laws.proofs.Flows.Bounds.{value_at_most, value_above_crash, flow_at_most}
use Rattle.pc_laws.proofs.Segments.Falls.{tight_shifted}
use Rattle.pc_laws.proofs.States.Opening.{optimal_schedule, optimal_is_least, times_within, within_range}
use Rattle.pc_laws.proofs.States.Falling.{fall_positive, fall_within, fall_in_range, segment_of_fall, cost_fallen, optimal_fallen}
use Rattle.pc_laws.proofs.States.FallExists.{crosses}
use Rattle.pc_laws.proofs.Stairs.OnStair.{knees_fall, knees_open}
use Rattle.pc_laws.proofs.Stairs.FilledState.{at_event-same, whole, filled-optimal, optimal-stair, filled-fall}

-- what holds between two labellings holds of flows that are alike
stair-alike : (net : Network) (terms : List Term) (knees : Knees) (limit : ℕ) (time along now : ℕ → ℕ) (value : ℕ)
    → ((a : ℕ) → a < length net.arcs → along a ≡ now a)
    → IsStairOptimal net terms knees limit time along value → IsStairOptimal net terms knees limit time now value
stair-alike net terms knees limit time along now value same optimal = record {
  starts = optimal.starts;
  ends = optimal.ends;
  ahead = optimal.ahead;
  on_stair = λ a l. subst (IsOnStair (stair_of terms knees a) (gap_of net.arcs time a)) (same a l) (optimal.on_stair a l);
  conserved = λ e l not_start not_end.
      sym (at_event-same (length net.arcs) (to_of net.arcs) along now e same)
      ∙ (optimal.conserved e l not_start not_end ∙ at_event-same (length net.arcs) (from_of net.arcs) along now e same);
  leaves = sym (at_event-same (length net.arcs) (from_of net.arcs) along now net.start same) ∙ optimal.leaves;
}

-- nothing is put at an event where nothing flows
nothing_at : (m : ℕ) (place : ℕ → ℕ) (e : ℕ) → at_event m place (λ a. 0) e ≡ 0
nothing_at m place e = sum_to-zero m (λ a. if place a == e then 0 else 0) (λ a l. either (place a == e) 0)
  where
    either : (b : Bool) (x : ℕ) → (if b then x else x) ≡ x
    either true x = refl
    either false x = refl

module _ (net : Network) (terms : List Term) (knees : Knees) (priced : IsPriced net terms knees) where
  pub falling : (a : ℕ) → a < length net.arcs → IsFalling (stair_of terms knees a)
  falling = knees_fall net terms knees priced.knees_fit

  -- at the normal durations, with times that end with the length, nothing needs to flow
  pub stair-opening_state : (limit : ℕ) (times : ℕ → ℕ) → IsSchedule net terms limit (normal_of terms) times → times net.end ≡ limit
      → IsStairOptimal net terms knees limit times (λ a. 0) 0
  stair-opening_state limit times schedule ends = record {
    starts = schedule.starts;
    ends = ends;
    ahead = λ a l. let fits = schedule.fits a l in omega arith;
    on_stair = λ a l. let fits = schedule.fits a l in knees_open net terms knees priced.knees_fit a (gap_of net.arcs times a) l (omega arith);
    conserved = λ e l not_start not_end. nothing_at (length net.arcs) (to_of net.arcs) e ∙ sym (nothing_at (length net.arcs) (from_of net.arcs) e);
    leaves = nothing_at (length net.arcs) (from_of net.arcs) net.start;
  }

  module _ (limit : ℕ) (time along : ℕ → ℕ) (value : ℕ) (optimal : IsStairOptimal net terms knees limit time along value) where
    at_knees : IsOptimal net terms knees (filled_state terms knees limit time along value)
    at_knees = filled-optimal net terms knees falling limit time along value optimal

    -- when nothing has fallen, each activity is as tight as now
    tight_still : (moves : ℕ → Bool) (fall : ℕ) → fall ≡ 0 → (a : ℕ) → a < length net.arcs
        → IsTight terms knees a (tail_at net.arcs (segment_of net terms knees (filled_state terms knees limit time along value) moves 0) fall a)
        (head_at net.arcs (segment_of net terms knees (filled_state terms knees limit time along value) moves 0) fall a)
        (knee_flow (stair_of terms knees a) (along a)) (crash_flow (stair_of terms knees a) (along a))
    tight_still moves fall none a l =
        tight_shifted terms knees a (time (from_of net.arcs a)) (time (to_of net.arcs a))
        (tail_at net.arcs (segment_of net terms knees (filled_state terms knees limit time along value) moves 0) fall a)
        (head_at net.arcs (segment_of net terms knees (filled_state terms knees limit time along value) moves 0) fall a)
        (knee_flow (stair_of terms knees a) (along a)) (crash_flow (stair_of terms knees a) (along a))
        (omega (arith, unmoved (moves (from_of net.arcs a)), unmoved (moves (to_of net.arcs a)))) (at_knees.tight.tight a l)
      where
        unmoved : (b : Bool) → (if b then fall else 0) ≡ 0
        unmoved true = none
        unmoved false = refl

    -- if nothing flows and no event moves, the segment of only the present length is complete
    pub stair-level_segment : (moves : ℕ → Bool) → ((e : ℕ) → e < net.events → moves e ≡ false)
        → ((a : ℕ) → a < length net.arcs → along a ≡ 0) → value ≡ 0
        → IsSegment net terms knees (segment_of net terms knees (filled_state terms knees limit time along value) moves 0)
    stair-level_segment moves still empty worthless = record {
      right = record {
        ends = record {
          start_time = optimal.starts;
          start_rests = still net.start priced.range.start_in;
          end_time = optimal.ends;
          end_moves = λ l. absurd (omega arith);
        };
        room_at_upper = λ a l. (tight_still moves 0 refl a l).room;
        room_at_lower = λ a l. (tight_still moves (limit - (limit - 0)) (omega arith) a l).room;
        durations = λ a l. refl;
        capacity = at_knees.flow.capacity;
        conserved = at_knees.flow.conserved;
        leaves = at_knees.flow.leaves;
        slack_at_upper = λ a l. (tight_still moves 0 refl a l).slack;
        slack_at_lower = λ a l. (tight_still moves (limit - (limit - 0)) (omega arith) a l).slack;
        costs = refl;
        proper = record {
          ordered = omega arith;
          degenerate = λ same. record {
            flat = worthless;
            rests = still;
            empty = λ a k l below. omega (arith, empty a l);
            empty_beside = λ a l. omega (arith, empty a l);
          };
        };
      };
      cut = λ l. absurd (omega arith);
      stops = λ l. absurd (omega arith);
    }

    -- the durations that the times allow are a schedule for the present length
    pub stair-schedule : IsSchedule net terms limit (lesser_of net terms time) time
    stair-schedule =
        optimal_schedule net terms knees (filled_state terms knees limit time along value) priced at_knees

    -- a cheapest one
    pub stair-least : IsLeastCost net terms knees limit (cost_of terms knees (lesser_of net terms time))
    stair-least =
        optimal_is_least net terms knees (filled_state terms knees limit time along value) priced at_knees

    -- no event is later than the end
    pub stair-times_within : (e : ℕ) → e < net.events → time e ≤ limit
    stair-times_within =
        times_within net terms knees (filled_state terms knees limit time along value) priced at_knees

    -- the present length is not below the all-crash length
    pub stair-within_range : (shortest : ℕ) → IsAllCrashLength net terms shortest → shortest ≤ limit
    stair-within_range shortest longest =
        within_range net terms knees (filled_state terms knees limit time along value) shortest priced at_knees longest

    -- while some schedule is shorter than the present length, the value is at most the sum of last slopes
    pub stair-value_bounded : (shorter : ℕ) (durations times : ℕ → ℕ) → IsSchedule net terms shorter durations times → shorter < limit
        → value ≤ sum_to (length net.arcs) (last_slope knees)
    stair-value_bounded shorter durations times schedule below =
        value_at_most net terms knees (filled_state terms knees limit time along value) shorter durations times priced
        at_knees schedule below

    -- so while the present length is above the all-crash length
    pub stair-value_above_crash : (order : List ℕ) (shortest : ℕ) → IsOrder net order → IsAllCrashLength net terms shortest → shortest < limit
        → value ≤ sum_to (length net.arcs) (last_slope knees)
    stair-value_above_crash order shortest ordered longest above =
        value_above_crash net terms knees order (filled_state terms knees limit time along value) shortest priced ordered
        at_knees longest above

    -- no activity has more flow than the value
    pub stair-units_bounded : (order : List ℕ) → IsOrder net order → (a : ℕ) → a < length net.arcs → along a ≤ value
    stair-units_bounded order ordered = flow_at_most net order along value priced.range priced.sound ordered optimal.conserved optimal.leaves

    -- where no activity stops before `fall`, and `fall` is a stop or a number above the present length, it is a stop:
    -- on a walk from the start to the end some activity is forward, and it stops within the present length
    pub stair-chosen : (moves : ℕ → Bool) (never fall : ℕ) → IsStairStuck net terms knees time along moves
        → HasNoStopBefore net terms knees time along moves fall → (fall ≡ never) ⊎ HasStop net terms knees time along moves fall → limit < never
        → IsStairFall net terms knees time along moves fall
    stair-chosen moves never fall stuck least (inr stops) above = record { stuck = stuck; stops = stops; least = least }
    stair-chosen moves never fall stuck least (inl is) above =
        let (walk, walked) = priced.sound.reached net.end priced.range.end_in in
        let (a, l, forward) = crosses net moves walk net.start net.end walked stuck.start_rests stuck.end_moves in
        absurd (omega (arith, least.forward a l forward, stair-times_within (to_of net.arcs a) (priced.range.to_in a l)))

    module _ (moves : ℕ → Bool) (fall : ℕ) (falls : IsStairFall net terms knees time along moves fall) where
      fall_there : IsFall net terms knees (filled_state terms knees limit time along value) moves fall
      fall_there = filled-fall net terms knees falling limit time along value moves optimal fall falls

      -- the fall is at least 1, and passes neither the present length nor the all-crash length
      pub stair-fall_positive : 0 < fall
      stair-fall_positive =
          fall_positive net terms knees (filled_state terms knees limit time along value) moves fall
          at_knees fall_there

      pub stair-fall_within : fall ≤ limit
      stair-fall_within = fall_within net terms knees (filled_state terms knees limit time along value) moves fall at_knees fall_there priced

      pub stair-fall_in_range : (shortest : ℕ) → IsAllCrashLength net terms shortest → shortest + fall ≤ limit
      stair-fall_in_range =
          fall_in_range net terms knees (filled_state terms knees limit time along value) moves fall
          at_knees fall_there priced

      -- the lengths through which the end falls are a complete segment
      pub stair-segment : IsSegment net terms knees (segment_of net terms knees (filled_state terms knees limit time along value) moves fall)
      stair-segment =
          segment_of_fall net terms knees (filled_state terms knees limit time along value) moves fall
          at_knees fall_there priced

      -- each unit of the fall costs the value
      pub stair-cost : cost_of terms knees (lesser_of net terms (λ e. time e - fall_of moves fall e)) ≡ cost_of terms knees (lesser_of net terms time) + value * fall
      stair-cost =
          cost_fallen net terms knees (filled_state terms knees limit time along value) moves fall
          at_knees fall_there priced

      -- and after the fall the same holds as before
      pub stair-fallen : IsStairOptimal net terms knees (limit - fall) (λ e. time e - fall_of moves fall e) along value
      stair-fallen =
          stair-alike net terms knees (limit - fall) (λ e. time e - fall_of moves fall e)
          (whole_flow knees (λ a. knee_flow (stair_of terms knees a) (along a)) (λ a. crash_flow (stair_of terms knees a) (along a))) along value
          (λ a l. whole net terms knees along a)
          (optimal-stair net terms knees falling (fallen (filled_state terms knees limit time along value) moves fall)
          (optimal_fallen net terms knees (filled_state terms knees limit time along value) moves fall
          at_knees fall_there priced))
