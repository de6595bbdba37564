-- Costs with one slope: what the definitions of flows and segments say if each activity has one knee, its normal
-- duration.
-- The flow at this knee is then called f1, and the flow on the crash duration f2.
use Rattle.std.specs.Prelude.{◌≡◌, ℕ, pos, ◌-ℤ◌, ◌+◌, ◌-◌, ◌*◌, ◌<◌, ◌≤◌, ◌⊎◌, ◌&&◌, if◌then◌else◌, nat_lt, Bool, true, false, List, length, All}
use Rattle.pc_model.specs.declared.Term.{Term}
use Rattle.pc_model.specs.Sums.{sum_to}
use Rattle.pc_model.specs.Walk.{IsSumOfWalk}
use Rattle.pc_model.specs.Network.{Network}
use Rattle.pc_model.specs.Schedule.{normal_of, crash_of, base_cost_of, slope_of, normals, crashes, IsSchedule}
use Rattle.pc_model.specs.Cost.{Knees}
use Rattle.pc_laws.specs.Flow.{outflow, IsConserved}
use Rattle.pc_laws.specs.Cover.{Joins, IsLongUnlessAlone, BeginsNormal}
use Rattle.pc_laws.specs.Segment.{Segment, span, head_at, tail_at, HasRoomAt, HasEnds, HasDuration, is_forward, is_backward, StopsAtCrash}

-- each activity has one knee: its normal duration, where the slope rises from 0 to its own
pub record HasOneSlope (net : Network) (terms : List Term) (knees : Knees) : Type 0 where
  pub count : (a : ℕ) → a < length net.arcs → knees.count a ≡ 1
  pub knee : (a : ℕ) → a < length net.arcs → knees.knee a 0 ≡ normal_of terms a
  pub rise : (a : ℕ) → a < length net.arcs → knees.rise a 0 ≡ slope_of terms a

-- Costs

-- what durations cost: the slope for each unit that an activity is shortened
abbrev pub plain_cost_of : List Term → (ℕ → ℕ) → ℕ
plain_cost_of terms durations =
    sum_to (length terms) (λ a. base_cost_of terms a + slope_of terms a * (normal_of terms a - durations a))

-- some schedule for a length has this cost, and none costs less
pub record IsPlainLeastCost (net : Network) (terms : List Term) (limit cost : ℕ) : Type 0 where
  pub reached : (durations times : ℕ → ℕ) × IsSchedule net terms limit durations times × (plain_cost_of terms durations ≡ cost)
  pub least : (durations times : ℕ → ℕ) → IsSchedule net terms limit durations times → cost ≤ plain_cost_of terms durations

-- Flows

-- f1 is at most the slope, what enters an event but the start and the end leaves it, and the value leaves the start
pub record IsPlainFlow (net : Network) (terms : List Term) (f1 f2 : ℕ → ℕ) (value : ℕ) : Type 0 where
  pub capacity : (a : ℕ) → a < length net.arcs → f1 a ≤ slope_of terms a
  pub conserved : IsConserved net (λ a. f1 a + f2 a)
  pub leaves : outflow net (λ a. f1 a + f2 a) net.start ≡ value

-- what a flow promises: the sum of costs, and of normal times f1 and crash times f2
abbrev pub plain_promise : List Term → (ℕ → ℕ) → (ℕ → ℕ) → ℕ
plain_promise terms f1 f2 =
    sum_to (length terms) (base_cost_of terms)
    + sum_to (length terms) (λ a. normal_of terms a * f1 a + crash_of terms a * f2 a)

-- Segments

-- if the gap is above normal f1 is 0, if it is below normal f1 is the slope, and if it is above crash f2 is 0
pub record IsPlainSlack (terms : List Term) (a tail head f1 f2 : ℕ) : Type 0 where
  pub above_normal : tail + normal_of terms a < head → f1 ≡ 0
  pub below_normal : head < tail + normal_of terms a → f1 ≡ slope_of terms a
  pub above_crash : tail + crash_of terms a < head → f2 ≡ 0

-- so when the moving events have fallen by `fall`
abbrev pub IsPlainSlackAt : Network → List Term → Segment → ℕ → ℕ → Type 0
IsPlainSlackAt net terms seg fall a =
    IsPlainSlack terms a (tail_at net.arcs seg fall a) (head_at net.arcs seg fall a) (seg.flow a 0) (seg.beside a)

-- a test for: activity a has its gap below normal when the moving events have fallen by `fall`
abbrev pub is_shortened : Network → List Term → Segment → ℕ → ℕ → Bool
is_shortened net terms seg fall a =
    nat_lt (head_at net.arcs seg fall a) (tail_at net.arcs seg fall a + normal_of terms a)

-- the sum of the slopes of the forward activities whose gap at the lower end is below normal
abbrev pub forward_slopes : Network → List Term → Segment → ℕ
forward_slopes net terms seg =
    sum_to (length net.arcs)
    (λ a. if is_forward net.arcs seg.moves a && is_shortened net terms seg (span seg) a then slope_of terms a else 0)

-- the sum of the slopes of the backward activities whose gap at the upper end is below normal
abbrev pub backward_slopes : Network → List Term → Segment → ℕ
backward_slopes net terms seg =
    sum_to (length net.arcs)
    (λ a. if is_backward net.arcs seg.moves a && is_shortened net terms seg 0 a then slope_of terms a else 0)

-- activity a is forward, and its gap is above normal at the upper end and normal at the lower end
pub record FallsToNormal (net : Network) (terms : List Term) (seg : Segment) (a : ℕ) : Type 0 where
  pub forward : is_forward net.arcs seg.moves a ≡ true
  pub above : tail_at net.arcs seg 0 a + normal_of terms a < head_at net.arcs seg 0 a
  pub at_normal : head_at net.arcs seg (span seg) a ≡ tail_at net.arcs seg (span seg) a + normal_of terms a

-- activity a is backward, and its gap is below normal at the upper end and normal at the lower end
pub record RisesToNormal (net : Network) (terms : List Term) (seg : Segment) (a : ℕ) : Type 0 where
  pub backward : is_backward net.arcs seg.moves a ≡ true
  pub below : head_at net.arcs seg 0 a < tail_at net.arcs seg 0 a + normal_of terms a
  pub at_normal : head_at net.arcs seg (span seg) a ≡ tail_at net.arcs seg (span seg) a + normal_of terms a

-- nothing costs, moves or flows
pub record IsPlainStill (net : Network) (seg : Segment) : Type 0 where
  pub flat : seg.slope ≡ 0
  pub rests : (e : ℕ) → e < net.events → seg.moves e ≡ false
  pub f1_empty : (a : ℕ) → a < length net.arcs → seg.flow a 0 ≡ 0
  pub f2_empty : (a : ℕ) → a < length net.arcs → seg.beside a ≡ 0

-- conditions 5 to 14 of a certificate, and of condition 15 what the segment's own lines show
pub record IsPlainSegment (net : Network) (terms : List Term) (seg : Segment) : Type 0 where
  -- 5, 6, 7
  pub ends : HasEnds net seg
  pub room_at_upper : (a : ℕ) → a < length net.arcs → HasRoomAt net terms seg 0 a
  pub room_at_lower : (a : ℕ) → a < length net.arcs → HasRoomAt net terms seg (span seg) a
  pub durations : (a : ℕ) → a < length net.arcs → HasDuration net terms seg a
  -- 8, 9, 10
  pub flow : IsPlainFlow net terms (λ a. seg.flow a 0) seg.beside seg.slope
  -- 11
  pub slack_at_upper : (a : ℕ) → a < length net.arcs → IsPlainSlackAt net terms seg 0 a
  pub slack_at_lower : (a : ℕ) → a < length net.arcs → IsPlainSlackAt net terms seg (span seg) a
  -- 12
  pub costs : plain_cost_of terms seg.duration ≡ seg.cost
  -- 13
  pub cut : seg.lower < seg.upper → pos (forward_slopes net terms seg) -ℤ pos (backward_slopes net terms seg) ≡ pos seg.slope
  -- 14
  pub stops : seg.lower < seg.upper →
      (a : ℕ) × (a < length net.arcs) × (StopsAtCrash net terms seg a ⊎ (FallsToNormal net terms seg a ⊎ RisesToNormal net terms seg a))
  -- 15
  pub ordered : seg.lower ≤ seg.upper
  pub degenerate : seg.lower ≡ seg.upper → IsPlainStill net seg

-- such segments join from the all-normal walk's sum, where all durations are normal, down to the all-crash walk's
pub record IsPlainCovering (net : Network) (terms : List Term) (segments : List Segment) (high low : ℕ) : Type 0 where
  pub each : All (IsPlainSegment net terms) segments
  pub joined : Joins high segments low
  pub long : IsLongUnlessAlone segments
  pub normal : BeginsNormal net terms segments
  pub normal_walk : IsSumOfWalk net.arcs (normals terms) net.start net.end high
  pub crash_walk : IsSumOfWalk net.arcs (crashes terms) net.start net.end low
