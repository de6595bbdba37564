-- A flow on the staircase: how it stays there when the gap or the flow changes, and what it makes the flows at the
-- knees, filled in their order.
use Rattle.std.proofs.Common.{◌≡◌, List, length, ℕ, zero, suc, ◌+◌, ◌-◌, ◌<◌, ◌≤◌, min, inl, inr, ap, arith}
use Rattle.std.proofs.lemmas.Bool.{cases_lt}
use Rattle.pc_model.specs.declared.Term.{Term}
use Rattle.pc_model.specs.Sums.{sum_to}
use Rattle.pc_model.specs.Network.{Network}
use Rattle.pc_model.specs.Schedule.{normal_of}
use Rattle.pc_model.specs.Cost.{Knees, AreKnees}
use Rattle.pc_laws.specs.Stair.{Stair, IsFalling, stair_of, reach, full_reach, unit_length, IsOnStair, IsPiece, knee_flow, crash_flow}
use Rattle.pc_laws.proofs.Stairs.Units.{unit-past, unit-least, unit-most, unit-crash, unit-top, unit-falls}

-- rises one after the other take of a flow what they hold
knee_flows_to : (n : ℕ) (s : Stair) (flow : ℕ) → sum_to n (knee_flow s flow) ≡ min (reach s n) flow
knee_flows_to zero s flow = omega arith
knee_flows_to (suc n) s flow = omega (arith, knee_flows_to n s flow)

module _ (s : Stair) where
  -- the knees and the crash duration carry the total flow
  pub knee_flow-sum : (flow : ℕ) → sum_to s.count (knee_flow s flow) + crash_flow s flow ≡ flow
  knee_flow-sum flow = omega (arith, knee_flows_to s.count s flow)

  -- and no knee more than its rise
  pub knee_flow-within : (flow k : ℕ) → knee_flow s flow k ≤ s.rise k
  knee_flow-within flow k = omega arith

  module _ (falling : IsFalling s) where
    -- a gap that a flow fits is not below the crash duration
    pub stair-room : (gap flow : ℕ) → IsOnStair s gap flow → s.crash ≤ gap
    stair-room gap flow on = omega (arith, on.next, unit-crash s falling flow)

    -- flows between two that fit the gap fit it
    pub stair-between : (gap x y z : ℕ) → IsOnStair s gap x → IsOnStair s gap z → x ≤ y → y ≤ z → IsOnStair s gap y
    stair-between gap x y z low high from to = record {
      next = omega (arith, low.next, unit-falls s falling x y from);
      last = λ some. omega (arith, high.last (omega arith), unit-falls s falling (y - 1) (z - 1) (omega arith));
    }

    -- where the next unit's arc is as long as the gap, more can flow, up to the end of its piece
    pub stair-along : (gap flow z length below above : ℕ) → IsPiece s flow length below above → IsOnStair s gap flow
        → unit_length s flow ≡ gap → flow ≤ z → z ≤ above → IsOnStair s gap z
    stair-along gap flow z length below above piece on at more within = record {
      next = omega (arith, at, unit-falls s falling flow z more);
      last = λ some. elim (cases_lt flow z) [
        | inl further ↦
            let from = piece.from in
            let to = piece.to in
            omega (arith, at, piece.level flow from to, piece.level (z - 1) (omega arith) (omega arith))
        | inr same ↦ let is : z ≡ flow = omega arith in omega (arith, on.last (omega arith), ap (λ n. unit_length s (n - 1)) is)
      ];
    }

    -- where the last unit's arc is as long as the gap, less can flow, down to the beginning of its piece
    pub stair-against : (gap flow z length below above : ℕ) → IsPiece s (flow - 1) length below above → IsOnStair s gap flow
        → 0 < flow → unit_length s (flow - 1) ≡ gap → below ≤ z → z ≤ flow → IsOnStair s gap z
    stair-against gap flow z length below above piece on some at within less = record {
      next = elim (cases_lt z flow) [
        | inl further ↦
            let from = piece.from in
            let to = piece.to in
            omega (arith, at, piece.level (flow - 1) from to, piece.level z within (omega arith))
        | inr same ↦ let is : z ≡ flow = omega arith in omega (arith, on.next, ap (unit_length s) is)
      ];
      last = λ left. omega (arith, at, unit-falls s falling (z - 1) (flow - 1) (omega arith));
    }

    -- nothing flows where the gap is not below the first knee
    pub stair-opening : (gap : ℕ) → 0 < s.count → s.knee 0 ≤ gap → IsOnStair s gap 0
    stair-opening gap some over = record { next = omega (arith, unit-top s falling some 0); last = λ none. absurd (omega arith) }

    -- what flows fits the gap at the knees: nothing runs on one below the gap, and all that may on one above it
    pub knee_flow-below_gap : (gap flow k : ℕ) → k < s.count → IsOnStair s gap flow → s.knee k < gap → knee_flow s flow k ≡ 0
    knee_flow-below_gap gap flow k l on low =
        elim (cases_lt (reach s k) flow) [
          | inl some ↦ absurd (omega (arith, on.last (omega arith), unit-most s falling (flow - 1) k l (omega arith)))
          | inr none ↦ omega arith
        ]

    pub knee_flow-above_gap : (gap flow k : ℕ) → k < s.count → IsOnStair s gap flow → gap < s.knee k → knee_flow s flow k ≡ s.rise k
    knee_flow-above_gap gap flow k l on high =
        elim (cases_lt flow (reach s (suc k))) [
          | inl less ↦ absurd (omega (arith, on.next, unit-least s falling flow k l less))
          | inr full ↦ omega arith
        ]

  -- nothing flows on the crash duration if the gap is above it
  pub crash_flow-none : (gap flow : ℕ) → IsOnStair s gap flow → s.crash < gap → crash_flow s flow ≡ 0
  crash_flow-none gap flow on wide =
      elim (cases_lt (full_reach s) flow) [
        | inl some ↦ absurd (omega (arith, on.last (omega arith), unit-past s (flow - 1) (omega arith)))
        | inr none ↦ omega arith
      ]

  -- a shorter gap is fitted as long as the next unit's arc is not longer
  pub stair-shrinks : (gap flow fall : ℕ) → IsOnStair s gap flow → unit_length s flow + fall ≤ gap → IsOnStair s (gap - fall) flow
  stair-shrinks gap flow fall on left = record { next = omega arith; last = λ some. omega (arith, on.last some) }

  -- and a longer one as long as the last unit's arc is not shorter
  pub stair-grows : (gap flow fall : ℕ) → IsOnStair s gap flow → (0 < flow → gap + fall ≤ unit_length s (flow - 1)) → IsOnStair s (gap + fall) flow
  stair-grows gap flow fall on left = record { next = omega (arith, on.next); last = left }

module _ (net : Network) (terms : List Term) (knees : Knees) (are : AreKnees net terms knees) where
  -- the knees of an activity fall
  pub knees_fall : (a : ℕ) → a < length net.arcs → IsFalling (stair_of terms knees a)
  knees_fall a l = record { ordered = λ j k. are.falling a j k l; above = λ k. are.above a k l }

  -- and nothing needs to flow where the gap is not below the normal duration
  pub knees_open : (a gap : ℕ) → a < length net.arcs → normal_of terms a ≤ gap → IsOnStair (stair_of terms knees a) gap 0
  knees_open a gap l over =
      stair-opening (stair_of terms knees a) (knees_fall a l) gap (are.some a l) (omega (arith, are.first a l))
