-- What is asked of an activity's flows and gaps, over the list of its knees.
-- Here is what no clause of a top call and no law reaches.
use Rattle.std.specs.Prelude.{ℕ, ◌+◌, ◌==◌, Bool, not, ◌&&◌, ◌||◌, nat_le, nat_lt, List, length, slice_index, if◌then◌else◌}
use Rattle.pc_model.specs.declared.Knee.{Knee}
use Rattle.pc_model.specs.Sums.{sum_to}
use Rattle.pc_model.specs.inside.Pieces.{knee_at}
use Rattle.pc_check.specs.Known.{each_below, some_below}
use Rattle.pc_check.specs.declared.gaps.Crossing.{Crossing}
use Rattle.pc_check.specs.KneeTests.{is_slack_at_knee}

-- no flow at a knee is above its rise
abbrev pub is_within_capacity_over : List Knee → List ℕ → Bool
is_within_capacity_over knees flows = each_below (length knees) (λ k. nat_le (slice_index flows k) (knee_at knees k).rise)

-- at each knee, and if the gap is above crash there is no flow on the crash duration
abbrev pub is_slack_over : ℕ → ℕ → ℕ → List Knee → List ℕ → Bool
is_slack_over head tail crash knees flows =
    each_below (length knees) (λ k. is_slack_at_knee head tail (knee_at knees k).at (knee_at knees k).rise (slice_index flows k))
    && (not (nat_lt (tail + crash) head) || slice_index flows (length knees) == 0)

-- nothing flows
abbrev pub is_still_over : List ℕ → Bool
is_still_over flows = each_below (length flows) (λ k. slice_index flows k == 0)

-- the sum of the flows
abbrev pub flow_sum : List ℕ → ℕ
flow_sum flows = sum_to (length flows) (slice_index flows)

-- the rises of the knees above the gap
abbrev pub knee_rises_over : ℕ → ℕ → List Knee → ℕ
knee_rises_over head tail knees = sum_to (length knees) (λ k. if nat_lt head (tail + (knee_at knees k).at) then (knee_at knees k).rise else 0)

-- the gap is at the knee at the lower end, and above it or below it at the upper end
abbrev pub stops_at_knee_over : Crossing → ℕ → Bool
stops_at_knee_over crossing knee =
    crossing.lower.head == crossing.lower.tail + knee
    && ((crossing.forward && nat_lt (crossing.upper.tail + knee) crossing.upper.head)
    || (crossing.backward && nat_lt crossing.upper.head (crossing.upper.tail + knee)))

-- the activity stops at crash, or at a knee
abbrev pub stops_over : Crossing → ℕ → List Knee → Bool
stops_over crossing crash knees =
    (crossing.forward && crossing.lower.head == crossing.lower.tail + crash)
    || some_below (length knees) (λ k. stops_at_knee_over crossing (knee_at knees k).at)
