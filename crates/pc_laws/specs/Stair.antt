-- The staircase of an activity. Each unit of its flow runs on an arc of its own length: the first units on the first
-- knee, as many as the slope rises there, the next on the next knee, and the rest on the crash duration.
use Rattle.std.specs.Prelude.{◌≡◌, ℕ, ◌-◌, ◌<◌, ◌≤◌, min, nat_lt, if◌then◌else◌, zero, suc, List}
use Rattle.pc_model.specs.declared.Term.{Term}
use Rattle.pc_model.specs.Sums.{sum_to}
use Rattle.pc_model.specs.Schedule.{crash_of}
use Rattle.pc_model.specs.Cost.{Knees}

-- how many knees there are, the duration at the k-th, by how much the slope rises below it, and the crash duration
pub record Stair : Type 0 where
  pub count : ℕ
  pub knee : ℕ → ℕ
  pub rise : ℕ → ℕ
  pub crash : ℕ

-- no knee is longer than the ones before it, and none is below the crash duration
pub record IsFalling (s : Stair) : Type 0 where
  pub ordered : (j k : ℕ) → j ≤ k → k < s.count → s.knee k ≤ s.knee j
  pub above : (k : ℕ) → k < s.count → s.crash ≤ s.knee k

-- the staircase of activity a
abbrev pub stair_of : List Term → Knees → ℕ → Stair
stair_of terms knees a =
    record { count = knees.count a; knee = knees.knee a; rise = knees.rise a; crash = crash_of terms a }

-- how many units run on the first k knees
abbrev pub reach : Stair → ℕ → ℕ
reach s k = sum_to k s.rise

-- how many units run on knees: as many as the last slope
abbrev pub full_reach : Stair → ℕ
full_reach s = reach s s.count

-- two staircases have the same knees and the same crash duration
pub record IsSameStair (s t : Stair) : Type 0 where
  pub count : s.count ≡ t.count
  pub knee : (k : ℕ) → k < s.count → s.knee k ≡ t.knee k
  pub rise : (k : ℕ) → k < s.count → s.rise k ≡ t.rise k
  pub crash : s.crash ≡ t.crash

-- the length of the arc on which unit x runs, where only the first n knees count; units are numbered from 0
abbrev pub length_to : ℕ → (ℕ → ℕ) → (ℕ → ℕ) → ℕ → ℕ → ℕ
length_to zero knee rise crash x = crash
length_to (suc n) knee rise crash x =
    if nat_lt x (sum_to n rise) then length_to n knee rise crash x
    else if nat_lt x (sum_to (suc n) rise) then knee n
    else crash

-- the length of the arc on which unit x runs
abbrev pub unit_length : Stair → ℕ → ℕ
unit_length s x = length_to s.count s.knee s.rise s.crash x

-- a flow fits a gap: the next unit's arc is not longer than the gap, and the last unit's arc is not shorter
pub record IsOnStair (s : Stair) (gap flow : ℕ) : Type 0 where
  pub next : unit_length s flow ≤ gap
  pub last : 0 < flow → gap ≤ unit_length s (flow - 1)

-- unit x is one of the units from `below` up to but not with `above`, which all run on arcs of this length
pub record IsPiece (s : Stair) (x length below above : ℕ) : Type 0 where
  pub from : below ≤ x
  pub to : x < above
  pub level : (y : ℕ) → below ≤ y → y < above → unit_length s y ≡ length

-- the part of a total flow that runs on the k-th knee
abbrev pub knee_flow : Stair → ℕ → ℕ → ℕ
knee_flow s flow k = min (s.rise k) (flow - reach s k)

-- the part of a total flow that runs on the crash duration
abbrev pub crash_flow : Stair → ℕ → ℕ
crash_flow s flow = flow - full_reach s

-- the rises of the knees above a gap
abbrev pub rises_over : Stair → ℕ → ℕ
rises_over s gap = sum_to s.count (λ k. if nat_lt gap (s.knee k) then s.rise k else 0)
