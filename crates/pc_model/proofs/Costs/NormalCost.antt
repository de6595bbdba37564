-- The all-normal schedule: the normal durations, with the greatest sums of them as times, are a schedule for the
-- all-normal length, and no schedule for any length costs less.
use Rattle.std.proofs.Common.{◌≡◌, ℕ, ◌-◌, ◌*◌, ◌<◌, ◌≤◌, List, length, slice_index, arith, subst}
use Rattle.std.proofs.Math.Nat.{mul-le-mul_left}
use Rattle.pc_model.specs.declared.Term.{Term}
use Rattle.pc_model.specs.Network.{Network, IsInRange, IsSound, IsEarly}
use Rattle.pc_model.specs.Schedule.{normals, normal_of, AreTerms, IsSchedule, IsAllNormalLength}
use Rattle.pc_model.specs.Cost.{Knees, activity_cost, cost_of, IsLeastCost}
use Rattle.pc_model.proofs.Sums.{sum_to-le}
use Rattle.pc_model.proofs.Walks.EarlyLaws.{early_at_start, early_fits}
use Rattle.pc_model.proofs.Schedules.Durations.{normals-at, crash-normal}

-- a longer duration of an activity costs no more
pub activity_cost-falls : (terms : List Term) (knees : Knees) (a d longer : ℕ) → d ≤ longer →
    activity_cost terms knees a longer ≤ activity_cost terms knees a d
activity_cost-falls terms knees a d longer below =
    omega (
      arith,
      sum_to-le (knees.count a) (λ k. knees.rise a k * (knees.knee a k - longer)) (λ k. knees.rise a k * (knees.knee a k - d))
          (λ k inside. mul-le-mul_left (knees.rise a k) (less k)),
    )
  where
    less : (k : ℕ) → knees.knee a k - longer ≤ knees.knee a k - d
    less k = omega arith

-- durations that are no shorter cost no more
pub cost_of-falls : (terms : List Term) (knees : Knees) (d longer : ℕ → ℕ) → ((a : ℕ) → a < length terms → d a ≤ longer a) →
    cost_of terms knees longer ≤ cost_of terms knees d
cost_of-falls terms knees d longer below =
    sum_to-le (length terms) (λ a. activity_cost terms knees a (longer a)) (λ a. activity_cost terms knees a (d a))
    (λ a inside. activity_cost-falls terms knees a (d a) (longer a) (below a inside))

-- durations that agree at each activity cost the same
pub cost_of-same : (terms : List Term) (knees : Knees) (d others : ℕ → ℕ) → ((a : ℕ) → a < length terms → d a ≡ others a) →
    cost_of terms knees d ≡ cost_of terms knees others
cost_of-same terms knees d others same =
    omega (
      arith,
      cost_of-falls terms knees d others (λ a below. omega (arith, same a below)),
      cost_of-falls terms knees others d (λ a below. omega (arith, same a below)),
    )

-- the normal durations, with the greatest sums of them as times, are a schedule for the all-normal length
pub all_normal_schedule : (net : Network) (terms : List Term) (times : ℕ → ℕ) (n : ℕ) →
    IsInRange net → IsSound net → AreTerms net terms → ((e : ℕ) → e < net.events → IsEarly net (normals terms) e (times e)) →
    IsAllNormalLength net terms n → IsSchedule net terms n (slice_index (normals terms)) times
all_normal_schedule net terms times n ranged sound are early longest = record {
  enough = λ a below. omega (arith, crash-normal net terms are a below, normals-at terms a (omega (arith, are.one_each)));
  within = λ a below. omega (arith, normals-at terms a (omega (arith, are.one_each)));
  starts = early_at_start net sound (normals terms) (times net.start) (early net.start ranged.start_in);
  fits = λ a below. early_fits net (normals terms) a below _ _ (early _ (ranged.from_in a below)) (early _ (ranged.to_in a below));
  ends = longest.bound (times net.end) (early net.end ranged.end_in).attained;
}

-- the listed normal durations cost what the normal durations cost
pub cost_of-normals : (terms : List Term) (knees : Knees) → cost_of terms knees (slice_index (normals terms)) ≡ cost_of terms knees (normal_of terms)
cost_of-normals terms knees = cost_of-same terms knees (slice_index (normals terms)) (normal_of terms) (normals-at terms)

-- the cost of the normal durations is the least cost for the all-normal length
pub all_normal_least_cost : (net : Network) (terms : List Term) (knees : Knees) (times : ℕ → ℕ) (n cost : ℕ) →
    IsInRange net → IsSound net → AreTerms net terms → ((e : ℕ) → e < net.events → IsEarly net (normals terms) e (times e)) →
    IsAllNormalLength net terms n → cost ≡ cost_of terms knees (normal_of terms) → IsLeastCost net terms knees n cost
all_normal_least_cost net terms knees times n cost ranged sound are early longest is = record {
  reached = (slice_index (normals terms), times, all_normal_schedule net terms times n ranged sound are early longest, omega (arith, is, cost_of-normals terms knees));
  least = λ d others scheduled. omega (
    arith,
    is,
    cost_of-falls terms knees d (normal_of terms) (λ a below. scheduled.within a (subst (λ m. a < m) are.one_each below)),
  );
}
