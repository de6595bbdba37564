-- From one total flow per activity to the flows at its knees: a state, labels that cannot grow, and the step of the
-- times from there.
use Rattle.std.proofs.Common.{◌≡◌, List, length, ℕ, ◌+◌, ◌-◌, ◌<◌, ◌≤◌, ◌==◌, Bool, true, inl, inr, ap, sym, ◌∙◌, arith}
use Rattle.std.specs.Prelude.{if◌then◌else◌}
use Rattle.pc_model.specs.declared.Term.{Term}
use Rattle.pc_model.specs.Sums.{at_event}
use Rattle.pc_model.proofs.Sums.{sum_to-same}
use Rattle.pc_model.specs.Walk.{from_of, to_of}
use Rattle.pc_model.specs.Network.{Network}
use Rattle.pc_model.specs.Schedule.{gap_of}
use Rattle.pc_model.specs.Cost.{Knees}
use Rattle.pc_laws.specs.Flow.{whole_flow, outflow, IsConserved, IsFlow}
use Rattle.pc_laws.specs.Segment.{is_forward, is_backward}
use Rattle.pc_laws.specs.State.{State, IsOptimal, CanRaise, CanLower, StopsAfter, IsStuck, IsFall}
use Rattle.pc_laws.specs.Stair.{Stair, IsFalling, stair_of, unit_length, knee_flow, crash_flow}
use Rattle.pc_laws.specs.Steps.{next_unit, last_unit, IsStairOptimal, filled_state, IsStairStuck, IsStairFall}
use Rattle.pc_laws.proofs.Stairs.Units.{unit-past, unit-least, unit-most, unit-crash, unit-runs}
use Rattle.pc_laws.proofs.Stairs.OnStair.{knee_flow-sum, knee_flow-within, knee_flow-below_gap, knee_flow-above_gap}
use Rattle.pc_laws.proofs.Stairs.Tightness.{stair-tight, tight-on_stair}

-- flows that are alike put the same at an event
pub at_event-same : (m : ℕ) (place f g : ℕ → ℕ) (e : ℕ) → ((a : ℕ) → a < m → f a ≡ g a) → at_event m place f e ≡ at_event m place g e
at_event-same m place f g e same =
    sum_to-same m (λ a. if place a == e then f a else 0) (λ a. if place a == e then g a else 0)
    (λ a l. ap (λ v. if place a == e then v else 0) (same a l))

module _ (s : Stair) (falling : IsFalling s) where
  -- where more could run on a knee, the next unit's arc is not shorter than it
  pub knee-open : (along k : ℕ) → k < s.count → knee_flow s along k < s.rise k → s.knee k ≤ unit_length s along
  knee-open along k l less = unit-least s falling along k l (omega arith)

  -- where something runs on a knee, the last unit's arc is not longer than it
  pub knee-used : (along k : ℕ) → k < s.count → 0 < knee_flow s along k → unit_length s (along - 1) ≤ s.knee k
  knee-used along k l some = unit-most s falling (along - 1) k l (omega arith)

module _ (net : Network) (terms : List Term) (knees : Knees) where
  pub whole : (along : ℕ → ℕ) (a : ℕ)
      → whole_flow knees (λ b. knee_flow (stair_of terms knees b) (along b)) (λ b. crash_flow (stair_of terms knees b) (along b)) a ≡ along a
  whole along a = knee_flow-sum (stair_of terms knees a) (along a)

  -- a total flow that is distributed over the knees is a flow
  pub filled-flow : (along : ℕ → ℕ) (value : ℕ) → IsConserved net along → outflow net along net.start ≡ value
      → IsFlow net knees (λ a. knee_flow (stair_of terms knees a) (along a)) (λ a. crash_flow (stair_of terms knees a) (along a)) value
  filled-flow along value conserved leaves = record {
    capacity = λ a k l below. knee_flow-within (stair_of terms knees a) (along a) k;
    conserved = λ e l not_start not_end.
        at_event-same (length net.arcs) (to_of net.arcs) _ along e (λ a m. whole along a)
        ∙ (conserved e l not_start not_end ∙ sym (at_event-same (length net.arcs) (from_of net.arcs) _ along e (λ a m. whole along a)));
    leaves = at_event-same (length net.arcs) (from_of net.arcs) _ along net.start (λ a m. whole along a) ∙ leaves;
  }

  module _ (falling : (a : ℕ) → a < length net.arcs → IsFalling (stair_of terms knees a)) where
    -- a state with total flows is one at knees
    pub filled-optimal : (limit : ℕ) (time along : ℕ → ℕ) (value : ℕ) → IsStairOptimal net terms knees limit time along value
        → IsOptimal net terms knees (filled_state terms knees limit time along value)
    filled-optimal limit time along value optimal = record {
      tight = record {
        starts = optimal.starts;
        tight = λ a l. stair-tight terms knees a (falling a l) (time (from_of net.arcs a)) (time (to_of net.arcs a)) (gap_of net.arcs time a)
            (omega (arith, optimal.ahead a l)) (along a) (optimal.on_stair a l);
      };
      ends = optimal.ends;
      flow = filled-flow along value optimal.conserved optimal.leaves;
    }

    -- and a state at knees is one with total flows
    pub optimal-stair : (st : State) → IsOptimal net terms knees st
        → IsStairOptimal net terms knees st.limit st.time (whole_flow knees st.flow st.beside) st.value
    optimal-stair st optimal = record {
      starts = optimal.tight.starts;
      ends = optimal.ends;
      ahead = λ a l. let room = (optimal.tight.tight a l).room in omega arith;
      on_stair = λ a l.
          let room = (optimal.tight.tight a l).room in
          tight-on_stair terms knees a (falling a l) (st.time (from_of net.arcs a)) (st.time (to_of net.arcs a)) (gap_of net.arcs st.time a)
          (omega arith) (st.flow a) (st.beside a) (λ k. optimal.flow.capacity a k l) (optimal.tight.tight a l);
      conserved = optimal.flow.conserved;
      leaves = optimal.flow.leaves;
    }

    module _ (limit : ℕ) (time along : ℕ → ℕ) (value : ℕ) (moves : ℕ → Bool) (optimal : IsStairOptimal net terms knees limit time along value) where
      -- where the next unit's arc is shorter than the gap, no more can flow
      no_raise : (a : ℕ) → a < length net.arcs → next_unit terms knees along a < gap_of net.arcs time a
          → CanRaise net terms knees (filled_state terms knees limit time along value) a → ⊥
      no_raise a l short (inl (k, below, at, less)) = omega (arith, knee-open (stair_of terms knees a) (falling a l) (along a) k below less)
      no_raise a l short (inr at) = omega (arith, unit-crash (stair_of terms knees a) (falling a l) (along a))

      -- where the last unit's arc is longer, no less can
      no_lower : (a : ℕ) → a < length net.arcs → (0 < along a → gap_of net.arcs time a < last_unit terms knees along a)
          → CanLower net terms knees (filled_state terms knees limit time along value) a → ⊥
      no_lower a l long (inl (k, below, at, some)) =
          omega (arith, long (omega arith), knee-used (stair_of terms knees a) (falling a l) (along a) k below some)
      no_lower a l long (inr (at, some)) =
          omega (arith, long (omega arith), unit-past (stair_of terms knees a) (along a - 1) (omega arith))

      -- labels that cannot grow with total flows cannot grow at the knees
      pub filled-stuck : IsStairStuck net terms knees time along moves
          → IsStuck net terms knees (filled_state terms knees limit time along value) moves
      filled-stuck stuck = record {
        start_rests = stuck.start_rests;
        end_moves = stuck.end_moves;
        forward = λ a l forward. no_raise a l (stuck.forward a l forward);
        backward = λ a l backward. no_lower a l (stuck.backward a l backward);
      }

      module _ (fall : ℕ) (falls : IsStairFall net terms knees time along moves fall) where
        -- a forward activity stops at a knee or at crash
        stops_forward : (a : ℕ) → a < length net.arcs → is_forward net.arcs moves a ≡ true → next_unit terms knees along a + fall ≡ gap_of net.arcs time a
            → StopsAfter net terms knees time moves a fall
        stops_forward a l forward meets =
            let short = falls.stuck.forward a l forward in
            elim (unit-runs (stair_of terms knees a) (along a)) [
              | inl (past, is) ↦ inl (record { forward = forward; at_crash = omega (arith, optimal.ahead a l) })
              | inr (k, below, from, to, is) ↦
                  inr (k, below, inl (record { forward = forward; dear = omega arith; above = omega arith; at_knee = omega (arith, optimal.ahead a l) }))
            ]

        -- a backward one at a knee
        stops_backward : (a : ℕ) → a < length net.arcs → is_backward net.arcs moves a ≡ true → 0 < along a
            → gap_of net.arcs time a + fall ≡ last_unit terms knees along a → StopsAfter net terms knees time moves a fall
        stops_backward a l backward some meets =
            let long = falls.stuck.backward a l backward some in
            let on = optimal.on_stair a l in
            elim (unit-runs (stair_of terms knees a) (along a - 1)) [
              | inl (past, is) ↦ absurd (omega (arith, on.next, unit-crash (stair_of terms knees a) (falling a l) (along a)))
              | inr (k, below, from, to, is) ↦
                  inr (k, below, inr (record { backward = backward; dear = omega arith; below = omega arith; at_knee = omega (arith, optimal.ahead a l) }))
            ]

        -- and none stops earlier
        none_earlier : (a n : ℕ) → a < length net.arcs → StopsAfter net terms knees time moves a n → fall ≤ n
        none_earlier a n l (inl crashes) =
            let at = crashes.at_crash in
            omega (arith, falls.least.forward a l crashes.forward, unit-crash (stair_of terms knees a) (falling a l) (along a))
        none_earlier a n l (inr (k, below, inl to_knee)) =
            let at = to_knee.at_knee in
            let dear = to_knee.dear in
            let above = to_knee.above in
            omega (
              arith,
              falls.least.forward a l to_knee.forward,
              knee-open (stair_of terms knees a) (falling a l) (along a) k below
                  (omega (arith, knee_flow-below_gap (stair_of terms knees a) (falling a l) (gap_of net.arcs time a) (along a) k below (optimal.on_stair a l) (omega arith))),
            )
        none_earlier a n l (inr (k, below, inr to_knee)) =
            let at = to_knee.at_knee in
            let dear = to_knee.dear in
            let under = to_knee.below in
            let full = knee_flow-above_gap (stair_of terms knees a) (falling a l) (gap_of net.arcs time a) (along a) k below (optimal.on_stair a l) (omega (arith, optimal.ahead a l)) in
            omega (
              arith,
              optimal.ahead a l,
              falls.least.backward a l to_knee.backward (omega arith),
              knee-used (stair_of terms knees a) (falling a l) (along a) k below (omega arith),
            )

        -- the fall from there is the one at the knees
        pub filled-fall : IsFall net terms knees (filled_state terms knees limit time along value) moves fall
        filled-fall = record {
          stuck = filled-stuck falls.stuck;
          stops = let (a, l, stop) = falls.stops in (
            a,
            l,
            elim stop [
              | inl at ↦ stops_forward a l at.forward at.meets
              | inr at ↦ stops_backward a l at.backward at.some at.meets
            ],
          );
          least = none_earlier;
        }
