-- Staircases with the same knees: a list of an activity's knees represents the staircase of the activity.
use Rattle.std.proofs.Common.{◌≡◌, ℕ, suc, ◌-◌, ◌<◌, ◌≤◌, inl, inr, ap, sym, ◌∙◌, arith}
use Rattle.pc_model.proofs.Sums.{sum_to-same}
use Rattle.pc_laws.specs.Stair.{Stair, IsFalling, IsSameStair, reach, full_reach, unit_length, IsOnStair, knee_flow, crash_flow}
use Rattle.pc_laws.proofs.Stairs.Units.{place, unit-at, unit-past}

module _ (s t : Stair) (same : IsSameStair s t) where
  same-reach : (k : ℕ) → k ≤ s.count → reach s k ≡ reach t k
  same-reach k l = sum_to-same k s.rise t.rise (λ j below. same.rise j (omega arith))

  -- they reach as far
  pub same-full_reach : full_reach s ≡ full_reach t
  same-full_reach = same-reach s.count (omega arith) ∙ ap (reach t) same.count

  -- each unit runs on an arc of the same length
  pub same-unit : (x : ℕ) → unit_length s x ≡ unit_length t x
  same-unit x =
      elim (place s x) [
        | inl past ↦ unit-past s x past ∙ (same.crash ∙ sym (unit-past t x (omega (arith, same-full_reach))))
        | inr at ↦
            let here = at.1 in
            unit-at s x at.0 at.1 at.2 at.3
            ∙ (same.knee at.0 at.1
            ∙ sym (unit-at t x at.0 (omega (arith, same.count)) (omega (arith, at.2, same-reach at.0 (omega arith))) (omega (arith, at.3, same-reach (suc at.0) (omega arith)))))
      ]

  -- the same flows fit a gap
  pub same-on_stair : (gap flow : ℕ) → IsOnStair t gap flow → IsOnStair s gap flow
  same-on_stair gap flow on = record {
    next = omega (arith, on.next, same-unit flow);
    last = λ some. omega (arith, on.last some, same-unit (flow - 1));
  }

  pub on_same-stair : (gap flow : ℕ) → IsOnStair s gap flow → IsOnStair t gap flow
  on_same-stair gap flow on = record {
    next = omega (arith, on.next, same-unit flow);
    last = λ some. omega (arith, on.last some, same-unit (flow - 1));
  }

  -- they fall together
  pub same-falling : IsFalling t → IsFalling s
  same-falling falling = record {
    ordered = λ j k from to. omega (arith, same.knee j (omega arith), same.knee k to, falling.ordered j k from (omega (arith, same.count)));
    above = λ k l. omega (arith, same.knee k l, same.crash, falling.above k (omega (arith, same.count)));
  }

  -- and a total flow is distributed alike
  pub same-knee_flow : (flow k : ℕ) → k < s.count → knee_flow s flow k ≡ knee_flow t flow k
  same-knee_flow flow k l = omega (arith, same.rise k l, same-reach k (omega arith))

  pub same-crash_flow : (flow : ℕ) → crash_flow s flow ≡ crash_flow t flow
  same-crash_flow flow = omega (arith, same-full_reach)
