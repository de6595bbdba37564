-- Halfway between two schedules for the lengths limit and limit + 2 there are two for limit + 1, which together
-- cost no more than the two: so the least cost is convex.
use Rattle.std.proofs.Common.{◌≤◌, ◌<◌, ◌+◌, ◌*◌, ◌-◌, ◌/◌, ℕ, min, List, length, arith, subst, sym}
use Rattle.std.proofs.Math.Nat.{mul-le-mul_left}
use Rattle.pc_model.proofs.Sums.{sum_to-add, sum_to-le}
use Rattle.pc_model.specs.declared.Term.{Term}
use Rattle.pc_model.specs.Walk.{from_of, to_of}
use Rattle.pc_model.specs.Network.{Network}
use Rattle.pc_model.specs.Schedule.{AreTerms, IsSchedule, normal_of, crash_of}
use Rattle.pc_model.specs.Cost.{Knees, AreKnees, activity_cost, cost_of, IsLeastCost}
use Rattle.pc_model.proofs.Costs.PieceLaws.{knee-normal}

-- the time halfway between two, rounded down
abbrev pub lower_half : ℕ → ℕ → ℕ
lower_half x y = (x + y) / 2

-- and rounded up
abbrev pub upper_half : ℕ → ℕ → ℕ
upper_half x y = (x + y + 1) / 2

-- an activity's duration between two times
abbrev pub fitted : ℕ → ℕ → ℕ → ℕ
fitted normal begin finish = min normal (finish - begin)

-- the duration halfway leaves no less than the crash one
pub fitted_enough : (normal crash begin finish : ℕ) → crash ≤ normal → begin + crash ≤ finish → crash ≤ fitted normal begin finish
fitted_enough normal crash begin finish ordered fits = omega arith

-- two durations d and d2 between their times: halfway, both roundings leave as much as crash
pub lower_fits : (crash d d2 s t s2 t2 : ℕ) → crash ≤ d → crash ≤ d2 → s + d ≤ t → s2 + d2 ≤ t2
    → lower_half s s2 + crash ≤ lower_half t t2
lower_fits crash d d2 s t s2 t2 a b p q = omega arith

pub upper_fits : (crash d d2 s t s2 t2 : ℕ) → crash ≤ d → crash ≤ d2 → s + d ≤ t → s2 + d2 ≤ t2
    → upper_half s s2 + crash ≤ upper_half t t2
upper_fits crash d d2 s t s2 t2 a b p q = omega arith

-- the two durations halfway are together at most as far below a knee as the two durations
pub halfway : (normal knee d d2 s t s2 t2 : ℕ) → knee ≤ normal → s + d ≤ t → s2 + d2 ≤ t2
    → (knee - fitted normal (lower_half s s2) (lower_half t t2)) + (knee - fitted normal (upper_half s s2) (upper_half t t2))
    ≤ (knee - d) + (knee - d2)
halfway normal knee d d2 s t s2 t2 k p q = omega arith

-- two schedules, and the two halfway between them
module _ (net : Network) (terms : List Term) (sized : AreTerms net terms) (limit : ℕ) (d t d2 t2 : ℕ → ℕ)
    (short : IsSchedule net terms limit d t) (long : IsSchedule net terms (limit + 2) d2 t2) where
  abbrev pub lower_times : ℕ → ℕ
  lower_times e = lower_half (t e) (t2 e)

  abbrev pub upper_times : ℕ → ℕ
  upper_times e = upper_half (t e) (t2 e)

  abbrev pub lower_durations : ℕ → ℕ
  lower_durations a = fitted (normal_of terms a) (lower_times (from_of net.arcs a)) (lower_times (to_of net.arcs a))

  abbrev pub upper_durations : ℕ → ℕ
  upper_durations a = fitted (normal_of terms a) (upper_times (from_of net.arcs a)) (upper_times (to_of net.arcs a))

  lower_gap : (a : ℕ) → a < length net.arcs → lower_times (from_of net.arcs a) + crash_of terms a ≤ lower_times (to_of net.arcs a)
  lower_gap a l = lower_fits (crash_of terms a) (d a) (d2 a) _ _ _ _ (short.enough a l) (long.enough a l) (short.fits a l) (long.fits a l)

  upper_gap : (a : ℕ) → a < length net.arcs → upper_times (from_of net.arcs a) + crash_of terms a ≤ upper_times (to_of net.arcs a)
  upper_gap a l = upper_fits (crash_of terms a) (d a) (d2 a) _ _ _ _ (short.enough a l) (long.enough a l) (short.fits a l) (long.fits a l)

  ordered_at : (a : ℕ) → a < length net.arcs → crash_of terms a ≤ normal_of terms a
  ordered_at a l = sized.ordered a (subst (λ n. a < n) (sym sized.one_each) l)

  pub lower_schedule : IsSchedule net terms (limit + 1) lower_durations lower_times
  lower_schedule = record {
    enough = λ a l. fitted_enough _ _ _ _ (ordered_at a l) (lower_gap a l);
    within = λ a l. omega arith;
    starts = (let x = short.starts in let y = long.starts in omega arith);
    fits = λ a l. (let h = lower_gap a l in omega arith);
    ends = (let x = short.ends in let y = long.ends in omega arith);
  }

  pub upper_schedule : IsSchedule net terms (limit + 1) upper_durations upper_times
  upper_schedule = record {
    enough = λ a l. fitted_enough _ _ _ _ (ordered_at a l) (upper_gap a l);
    within = λ a l. omega arith;
    starts = (let x = short.starts in let y = long.starts in omega arith);
    fits = λ a l. (let h = upper_gap a l in omega arith);
    ends = (let x = short.ends in let y = long.ends in omega arith);
  }

  -- the two together cost no more than the two schedules
  module _ (knees : Knees) (are : AreKnees net terms knees) where
    missing : (ℕ → ℕ) → ℕ → ℕ → ℕ
    missing durations a k = knees.rise a k * (knees.knee a k - durations a)

    one_knee_halfway : (a k : ℕ) → a < length net.arcs → k < knees.count a
        → missing lower_durations a k + missing upper_durations a k ≤ missing d a k + missing d2 a k
    unfolding missing
    one_knee_halfway a k l below =
        omega (
          arith,
          mul-le-mul_left (knees.rise a k)
              (halfway (normal_of terms a) (knees.knee a k) (d a) (d2 a) _ _ _ _ (knee-normal net terms knees are a k l below) (short.fits a l) (long.fits a l)),
        )

    one_halfway : (a : ℕ) → a < length net.arcs
        → activity_cost terms knees a (lower_durations a) + activity_cost terms knees a (upper_durations a) ≤ activity_cost terms knees a (d a) + activity_cost terms knees a (d2 a)
    unfolding missing
    one_halfway a l =
        let n : ℕ = knees.count a in
        omega (
          arith,
          sum_to-add n (missing lower_durations a) (missing upper_durations a),
          sum_to-add n (missing d a) (missing d2 a),
          sum_to-le n (λ k. missing lower_durations a k + missing upper_durations a k) (λ k. missing d a k + missing d2 a k) (λ k below. one_knee_halfway a k l below),
        )

    pub halfway_cost : cost_of terms knees lower_durations + cost_of terms knees upper_durations ≤ cost_of terms knees d + cost_of terms knees d2
    halfway_cost =
        let n : ℕ = length terms in
        omega (
          arith,
          sum_to-add n (λ a. activity_cost terms knees a (lower_durations a)) (λ a. activity_cost terms knees a (upper_durations a)),
          sum_to-add n (λ a. activity_cost terms knees a (d a)) (λ a. activity_cost terms knees a (d2 a)),
          sum_to-le n (λ a. activity_cost terms knees a (lower_durations a) + activity_cost terms knees a (upper_durations a))
              (λ a. activity_cost terms knees a (d a) + activity_cost terms knees a (d2 a))
              (λ a l. one_halfway a (subst (λ k. a < k) sized.one_each l)),
        )

-- of three lengths in a row the middle one's least cost is at most the mean of the outer ones'
pub convex : (net : Network) (terms : List Term) (knees : Knees) (limit a b c : ℕ) → AreTerms net terms → AreKnees net terms knees
    → IsLeastCost net terms knees limit a → IsLeastCost net terms knees (limit + 1) b → IsLeastCost net terms knees (limit + 2) c
    → 2 * b ≤ a + c
convex net terms knees limit a b c sized are short middle long =
    let (d, t, s, p) = short.reached in
    let (d2, t2, s2, p2) = long.reached in
    omega (
      arith,
      p,
      p2,
      halfway_cost net terms sized limit d t d2 t2 s s2 knees are,
      middle.least _ _ (lower_schedule net terms sized limit d t d2 t2 s s2),
      middle.least _ _ (upper_schedule net terms sized limit d t d2 t2 s s2),
    )
