-- What durations cost, and the least cost of a schedule for a length. An activity's cost is a convex function of its
-- duration: it has knees, and below each of them one unit less costs more by the rise of that knee.
use Rattle.std.specs.Prelude.{◌≡◌, ℕ, ◌+◌, ◌-◌, ◌*◌, ◌<◌, ◌≤◌, List, length}
use Rattle.pc_model.specs.declared.Term.{Term}
use Rattle.pc_model.specs.Sums.{sum_to}
use Rattle.pc_model.specs.Network.{Network, IsInRange, IsSound}
use Rattle.pc_model.specs.Schedule.{normal_of, crash_of, base_cost_of, slope_of, AreTerms, IsSchedule}

-- how many knees activity a has, the duration at its k-th knee, and by how much its slope rises below that knee
pub record Knees : Type 0 where
  pub count : ℕ → ℕ
  pub knee : ℕ → ℕ → ℕ
  pub rise : ℕ → ℕ → ℕ

-- the first knee of each activity is its normal duration, where the slope rises from 0 to the activity's own; later
-- knees are no longer than the ones before, and none is below the crash duration
pub record AreKnees (net : Network) (terms : List Term) (knees : Knees) : Type 0 where
  pub some : (a : ℕ) → a < length net.arcs → 0 < knees.count a
  pub first : (a : ℕ) → a < length net.arcs → knees.knee a 0 ≡ normal_of terms a
  pub first_rise : (a : ℕ) → a < length net.arcs → knees.rise a 0 ≡ slope_of terms a
  pub falling : (a j k : ℕ) → a < length net.arcs → j ≤ k → k < knees.count a → knees.knee a k ≤ knees.knee a j
  pub above : (a k : ℕ) → a < length net.arcs → k < knees.count a → crash_of terms a ≤ knees.knee a k

-- a cost with one slope has one knee: the normal duration, where the slope rises from 0
abbrev pub one_knee : List Term → Knees
one_knee terms = record { count = λ a. 1; knee = λ a k. normal_of terms a; rise = λ a k. slope_of terms a }

-- what activity a costs at a duration: its cost at its normal duration, and for each knee the rise for each unit by
-- which the duration is below it
abbrev pub activity_cost : List Term → Knees → ℕ → ℕ → ℕ
activity_cost terms knees a duration =
    base_cost_of terms a + sum_to (knees.count a) (λ k. knees.rise a k * (knees.knee a k - duration))

-- the cost of durations
abbrev pub cost_of : List Term → Knees → (ℕ → ℕ) → ℕ
cost_of terms knees durations = sum_to (length terms) (λ a. activity_cost terms knees a (durations a))

-- the least cost of a schedule for a length: some schedule for it has this cost, and none costs less
pub record IsLeastCost (net : Network) (terms : List Term) (knees : Knees) (limit cost : ℕ) : Type 0 where
  pub reached : (durations times : ℕ → ℕ) × IsSchedule net terms limit durations times × (cost_of terms knees durations ≡ cost)
  pub least : (durations times : ℕ → ℕ) → IsSchedule net terms limit durations times → cost ≤ cost_of terms knees durations

-- a sound network, a term for each of its activities, and knees that fit the terms
pub record IsPriced (net : Network) (terms : List Term) (knees : Knees) : Type 0 where
  pub range : IsInRange net
  pub sound : IsSound net
  pub terms_fit : AreTerms net terms
  pub knees_fit : AreKnees net terms knees

-- the last slope of activity a, the sum of its rises: what a unit costs below its last knee
abbrev pub last_slope : Knees → ℕ → ℕ
last_slope knees a = sum_to (knees.count a) (knees.rise a)
