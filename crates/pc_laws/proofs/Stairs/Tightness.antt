-- A flow is on the staircase exactly where the flows at the knees fit the gap.
use Rattle.std.proofs.Common.{◌≡◌, List, ℕ, suc, ◌+◌, ◌-◌, ◌*◌, ap, ◌<◌, ◌≤◌, inl, inr, arith}
use Rattle.std.proofs.lemmas.Bool.{cases_lt}
use Rattle.std.proofs.Math.Nat.{mul-add}
use Rattle.pc_model.specs.declared.Term.{Term}
use Rattle.pc_model.specs.Sums.{sum_to}
use Rattle.pc_model.proofs.Sums.{sum_to-le, sum_to-same, sum_to-mono, sum_to-ends}
use Rattle.pc_model.specs.Cost.{Knees}
use Rattle.pc_laws.specs.Tight.{IsTight}
use Rattle.pc_laws.specs.Stair.{Stair, IsFalling, stair_of, unit_length, IsOnStair, knee_flow, crash_flow}
use Rattle.pc_laws.proofs.Flows.Activity.{knees_balance, crash_balances}
use Rattle.pc_laws.proofs.Stairs.Units.{place, unit-at, unit-past}
use Rattle.pc_laws.proofs.Stairs.OnStair.{knee_flow-sum, stair-room, knee_flow-below_gap, knee_flow-above_gap, crash_flow-none}

module _ (terms : List Term) (knees : Knees) (a : ℕ) (falling : IsFalling (stair_of terms knees a)) (tail head gap : ℕ) (spans : head ≡ tail + gap) where
  -- a total flow that fits the gap fits it at each knee when it is distributed
  pub stair-tight : (along : ℕ) → IsOnStair (stair_of terms knees a) gap along
      → IsTight terms knees a tail head (knee_flow (stair_of terms knees a) along) (crash_flow (stair_of terms knees a) along)
  stair-tight along on = record {
    room = omega (arith, stair-room (stair_of terms knees a) falling gap along on);
    slack = record {
      at_knees = λ k l. record {
        above = λ far. knee_flow-below_gap (stair_of terms knees a) falling gap along k l on (omega arith);
        below = λ near. knee_flow-above_gap (stair_of terms knees a) falling gap along k l on (omega arith);
      };
      above_crash = λ far. crash_flow-none (stair_of terms knees a) gap along on (omega arith);
    };
  }

  module _ (f : ℕ → ℕ) (g : ℕ) (capacity : (k : ℕ) → k < knees.count a → f k ≤ knees.rise a k) (tight : IsTight terms knees a tail head f g) where
    -- where the next unit's arc were longer than the gap, all would be full up to its knee
    tight-next : unit_length (stair_of terms knees a) (sum_to (knees.count a) f + g) ≤ gap
    tight-next =
        let room = tight.room in
        elim (cases_lt gap (unit_length (stair_of terms knees a) (sum_to (knees.count a) f + g))) [
          | inl long ↦ elim (place (stair_of terms knees a) (sum_to (knees.count a) f + g)) [
            | inl past ↦ absurd (omega (arith, unit-past (stair_of terms knees a) (sum_to (knees.count a) f + g) past))
            | inr at ↦ absurd (omega (
              arith,
              at.3,
              sum_to-mono (suc at.0) (knees.count a) f (omega (arith, at.1)),
              sum_to-same (suc at.0) f (knees.rise a)
                  (λ j l. (tight.slack.at_knees j (omega (arith, at.1))).below
                  (omega (arith, unit-at (stair_of terms knees a) (sum_to (knees.count a) f + g) at.0 at.1 at.2 at.3, falling.ordered j at.0 (omega arith) at.1))),
            ))
          ]
          | inr short ↦ short
        ]

    -- where the last unit's arc were shorter, nothing would flow from its knee on
    tight-last : 0 < sum_to (knees.count a) f + g → gap ≤ unit_length (stair_of terms knees a) (sum_to (knees.count a) f + g - 1)
    tight-last some =
        elim (cases_lt (unit_length (stair_of terms knees a) (sum_to (knees.count a) f + g - 1)) gap) [
          | inl short ↦ elim (place (stair_of terms knees a) (sum_to (knees.count a) f + g - 1)) [
            | inl past ↦ absurd (omega (
              arith,
              tight.slack.above_crash (omega (arith, unit-past (stair_of terms knees a) (sum_to (knees.count a) f + g - 1) past)),
              sum_to-le (knees.count a) f (knees.rise a) capacity,
            ))
            | inr at ↦
                let is = unit-at (stair_of terms knees a) (sum_to (knees.count a) f + g - 1) at.0 at.1 at.2 at.3 in
                absurd (omega (
                  arith,
                  at.2,
                  tight.slack.above_crash (omega (arith, is, falling.above at.0 at.1)),
                  sum_to-ends (knees.count a) at.0 f (omega (arith, at.1))
                      (λ j from to. (tight.slack.at_knees j to).above (omega (arith, is, falling.ordered at.0 j from to))),
                  sum_to-le at.0 f (knees.rise a) (λ j l. capacity j (omega (arith, at.1))),
                ))
          ]
          | inr long ↦ long
        ]

    -- so flows that fit the gap at the knees make a total flow that fits it
    pub tight-on_stair : IsOnStair (stair_of terms knees a) gap (sum_to (knees.count a) f + g)
    tight-on_stair = record { next = tight-next; last = tight-last }

-- what runs on the staircase asks for the gap of each unit, and of each rise what its knee is above the gap
pub stair-price : (s : Stair) → IsFalling s → (gap along : ℕ) → IsOnStair s gap along
    → sum_to s.count (λ k. s.knee k * knee_flow s along k) + s.crash * crash_flow s along
    ≡ gap * along + sum_to s.count (λ k. s.rise k * (s.knee k - gap))
stair-price s falling gap along on =
    omega (
      arith,
      knees_balance s.count s.knee s.rise (knee_flow s along) 0 gap (gap + s.knee 0) gap
          (λ k l. record { above = λ far. knee_flow-below_gap s falling gap along k l on (omega arith); below = λ near. knee_flow-above_gap s falling gap along k l on (omega arith) })
          (λ k l. omega (arith, falling.ordered 0 k (omega arith) l)) (omega arith) (omega arith),
      crash_balances 0 gap s.crash (gap + s.knee 0) (crash_flow s along) gap (λ far. crash_flow-none s gap along on (omega arith))
          (omega (arith, stair-room s falling gap along on)) (omega (arith, stair-room s falling gap along on)) (omega arith),
      mul-add gap (sum_to s.count (knee_flow s along)) (crash_flow s along),
      ap (λ x. gap * x) (knee_flow-sum s along),
    )
