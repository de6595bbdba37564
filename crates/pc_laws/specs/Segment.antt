-- Segments of the time-cost curve: what is read from one for a length, and the conditions that make it right.
use Rattle.std.specs.Prelude.{◌≡◌, ℕ, ℤ, pos, ◌-ℤ◌, ◌+◌, ◌-◌, ◌*◌, ◌<◌, ◌≤◌, Bool, true, false, not, ◌&&◌, if◌then◌else◌, nat_lt, List, length, ◌⊎◌}
use Rattle.pc_model.specs.declared.Arc.{Arc}
use Rattle.pc_model.specs.declared.Term.{Term}
use Rattle.pc_model.specs.Sums.{sum_to}
use Rattle.pc_model.specs.Walk.{from_of, to_of}
use Rattle.pc_model.specs.Network.{Network}
use Rattle.pc_model.specs.Schedule.{crash_of, lesser_of, IsSchedule}
use Rattle.pc_model.specs.Cost.{Knees, cost_of, IsLeastCost}
use Rattle.pc_laws.specs.Flow.{whole_flow, outflow, IsConserved, IsFlow, promise, bound_of}
use Rattle.pc_laws.specs.Tight.{HasRoom, IsSlack}

-- a stretch of the curve between two lengths: the cost at its upper end, what each unit of length less costs, for each
-- event a time at the upper end and whether it moves, and for each activity a duration there, a flow at each of its
-- knees, and a flow on its crash duration
pub record Segment : Type 0 where
  pub upper : ℕ
  pub lower : ℕ
  pub cost : ℕ
  pub slope : ℕ
  pub time : ℕ → ℕ
  pub moves : ℕ → Bool
  pub duration : ℕ → ℕ
  pub flow : ℕ → ℕ → ℕ
  pub beside : ℕ → ℕ

-- how far the lower end is below the upper end
abbrev pub span : Segment → ℕ
span seg = seg.upper - seg.lower

-- the length is between the ends of the segment
pub record Holds (seg : Segment) (limit : ℕ) : Type 0 where
  pub above : seg.lower ≤ limit
  pub below : limit ≤ seg.upper

-- What is read from a segment for a length

-- how far event e has fallen when the moving events have fallen by `fall`
abbrev pub fall_of : (ℕ → Bool) → ℕ → ℕ → ℕ
fall_of moves fall e = if moves e then fall else 0

-- the time of event e: its time at the upper end, and as much earlier as the length is shorter if it moves
abbrev pub times_for : Segment → ℕ → ℕ → ℕ
times_for seg limit e = seg.time e - fall_of seg.moves (seg.upper - limit) e

-- the duration of activity a: the lesser of its normal duration and its gap
abbrev pub durations_for : Network → List Term → Segment → ℕ → ℕ → ℕ
durations_for net terms seg limit = lesser_of net terms (times_for seg limit)

-- the cost: the cost at the upper end, and the slope for each unit that the length is shorter
abbrev pub cost_for : Segment → ℕ → ℕ
cost_for seg limit = seg.cost + seg.slope * (seg.upper - limit)

-- Gaps when the moving events have fallen by `fall`, with two sides

-- the head of activity a's gap: the time of its ending event, and how far its beginning event has fallen
abbrev pub head_at : List Arc → Segment → ℕ → ℕ → ℕ
head_at arcs seg fall a = seg.time (to_of arcs a) + fall_of seg.moves fall (from_of arcs a)

-- the tail of activity a's gap: the time of its beginning event, and how far its ending event has fallen
abbrev pub tail_at : List Arc → Segment → ℕ → ℕ → ℕ
tail_at arcs seg fall a = seg.time (from_of arcs a) + fall_of seg.moves fall (to_of arcs a)

-- activity a's gap is at least crash
abbrev pub HasRoomAt : Network → List Term → Segment → ℕ → ℕ → Type 0
HasRoomAt net terms seg fall a = HasRoom terms a (tail_at net.arcs seg fall a) (head_at net.arcs seg fall a)

-- activity a's flows fit its gap
abbrev pub IsSlackAt : Network → List Term → Knees → Segment → ℕ → ℕ → Type 0
IsSlackAt net terms knees seg fall a =
    IsSlack terms knees a (tail_at net.arcs seg fall a) (head_at net.arcs seg fall a) (seg.flow a) (seg.beside a)

-- The conditions that make a segment right, with their numbers in a certificate

-- the start has time 0 and rests; the end has the upper end as its time, and moves unless the two ends are equal
pub record HasEnds (net : Network) (seg : Segment) : Type 0 where
  pub start_time : seg.time net.start ≡ 0
  pub start_rests : seg.moves net.start ≡ false
  pub end_time : seg.time net.end ≡ seg.upper
  pub end_moves : seg.lower < seg.upper → seg.moves net.end ≡ true

-- the duration is the lesser of the normal duration and the gap at the upper end
abbrev pub HasDuration : Network → List Term → Segment → ℕ → Type 0
HasDuration net terms seg a = seg.duration a ≡ lesser_of net terms seg.time a

-- the slope is 0, no event moves and nothing flows
pub record IsStill (net : Network) (knees : Knees) (seg : Segment) : Type 0 where
  pub flat : seg.slope ≡ 0
  pub rests : (e : ℕ) → e < net.events → seg.moves e ≡ false
  pub empty : (a k : ℕ) → a < length net.arcs → k < knees.count a → seg.flow a k ≡ 0
  pub empty_beside : (a : ℕ) → a < length net.arcs → seg.beside a ≡ 0

-- the lower end is not above the upper one, and if they are equal the slope is 0, no event moves and nothing flows
pub record IsProper (net : Network) (knees : Knees) (seg : Segment) : Type 0 where
  pub ordered : seg.lower ≤ seg.upper
  pub degenerate : seg.lower ≡ seg.upper → IsStill net knees seg

-- what makes the readings of a segment right: conditions 5 to 12, and the part of condition 15 that its own lines show
pub record IsRightSegment (net : Network) (terms : List Term) (knees : Knees) (seg : Segment) : Type 0 where
  -- 5: the start and the end
  pub ends : HasEnds net seg
  -- 6: each gap at the upper and at the lower end is at least crash
  pub room_at_upper : (a : ℕ) → a < length net.arcs → HasRoomAt net terms seg 0 a
  pub room_at_lower : (a : ℕ) → a < length net.arcs → HasRoomAt net terms seg (span seg) a
  -- 7: each duration
  pub durations : (a : ℕ) → a < length net.arcs → HasDuration net terms seg a
  -- 8: at each knee at most the rise flows
  pub capacity : (a k : ℕ) → a < length net.arcs → k < knees.count a → seg.flow a k ≤ knees.rise a k
  -- 9: what enters an event but the start and the end leaves it
  pub conserved : IsConserved net (whole_flow knees seg.flow seg.beside)
  -- 10: the slope leaves the start
  pub leaves : outflow net (whole_flow knees seg.flow seg.beside) net.start ≡ seg.slope
  -- 11: the flows fit the gaps at the upper and at the lower end
  pub slack_at_upper : (a : ℕ) → a < length net.arcs → IsSlackAt net terms knees seg 0 a
  pub slack_at_lower : (a : ℕ) → a < length net.arcs → IsSlackAt net terms knees seg (span seg) a
  -- 12: the cost is that of the durations
  pub costs : cost_of terms knees seg.duration ≡ seg.cost
  -- 15: its two ends
  pub proper : IsProper net knees seg

-- The cut between the resting and the moving events

-- a test for: activity a leads from a resting to a moving event
abbrev pub is_forward : List Arc → (ℕ → Bool) → ℕ → Bool
is_forward arcs moves a = not (moves (from_of arcs a)) && moves (to_of arcs a)

-- a test for: activity a leads from a moving to a resting event
abbrev pub is_backward : List Arc → (ℕ → Bool) → ℕ → Bool
is_backward arcs moves a = moves (from_of arcs a) && not (moves (to_of arcs a))

-- the rises of activity a's knees above its gap when the moving events have fallen by `fall`
abbrev pub rises_above : Network → Knees → Segment → ℕ → ℕ → ℕ
rises_above net knees seg fall a =
    sum_to (knees.count a)
    (λ k. if nat_lt (head_at net.arcs seg fall a) (tail_at net.arcs seg fall a + knees.knee a k) then knees.rise a k else 0)

-- the sum of the rises of the forward activities' knees above the gap at the lower end
abbrev pub forward_rises : Network → Knees → Segment → ℕ
forward_rises net knees seg =
    sum_to (length net.arcs) (λ a. if is_forward net.arcs seg.moves a then rises_above net knees seg (span seg) a else 0)

-- the sum of the rises of the backward activities' knees above the gap at the upper end
abbrev pub backward_rises : Network → Knees → Segment → ℕ
backward_rises net knees seg =
    sum_to (length net.arcs) (λ a. if is_backward net.arcs seg.moves a then rises_above net knees seg 0 a else 0)

-- what a unit of length less costs across the cut: the forward rises less the backward rises
abbrev pub cut_gain : Network → Knees → Segment → ℤ
cut_gain net knees seg = pos (forward_rises net knees seg) -ℤ pos (backward_rises net knees seg)

-- activity a is forward, and its gap at the lower end is crash
pub record StopsAtCrash (net : Network) (terms : List Term) (seg : Segment) (a : ℕ) : Type 0 where
  pub forward : is_forward net.arcs seg.moves a ≡ true
  pub at_crash : head_at net.arcs seg (span seg) a ≡ tail_at net.arcs seg (span seg) a + crash_of terms a

-- activity a is forward, and its gap is above its k-th knee at the upper end and at it at the lower end
pub record FallsToKnee (net : Network) (knees : Knees) (seg : Segment) (a k : ℕ) : Type 0 where
  pub forward : is_forward net.arcs seg.moves a ≡ true
  pub above : tail_at net.arcs seg 0 a + knees.knee a k < head_at net.arcs seg 0 a
  pub at_knee : head_at net.arcs seg (span seg) a ≡ tail_at net.arcs seg (span seg) a + knees.knee a k

-- activity a is backward, and its gap is below its k-th knee at the upper end and at it at the lower end
pub record RisesToKnee (net : Network) (knees : Knees) (seg : Segment) (a k : ℕ) : Type 0 where
  pub backward : is_backward net.arcs seg.moves a ≡ true
  pub below : head_at net.arcs seg 0 a < tail_at net.arcs seg 0 a + knees.knee a k
  pub at_knee : head_at net.arcs seg (span seg) a ≡ tail_at net.arcs seg (span seg) a + knees.knee a k

-- some activity stops at the lower end
abbrev pub StopsAtLower : Network → List Term → Knees → Segment → Type 0
StopsAtLower net terms knees seg =
    (a : ℕ) × (a < length net.arcs)
    × (StopsAtCrash net terms seg a
    ⊎ ((k : ℕ) × (k < knees.count a) × (FallsToKnee net knees seg a k ⊎ RisesToKnee net knees seg a k)))

-- a complete segment: its readings are right, its slope is its cut gain, and it ends where some activity stops
pub record IsSegment (net : Network) (terms : List Term) (knees : Knees) (seg : Segment) : Type 0 where
  -- 5 to 12, and 15
  pub right : IsRightSegment net terms knees seg
  -- 13: unless the ends are equal, the cut gain is the slope
  pub cut : seg.lower < seg.upper → cut_gain net knees seg ≡ pos seg.slope
  -- 14: unless the ends are equal, some activity stops at the lower end
  pub stops : seg.lower < seg.upper → StopsAtLower net terms knees seg

-- What a right segment gives at every length between its ends

-- the reading for a length puts no time below 0, is a schedule that ends at the length, and costs what it says; the
-- segment's flow has the slope as its value and the cost as its bound; no schedule for the length costs less; and the
-- slope is the cut gain
pub record IsRight (net : Network) (terms : List Term) (knees : Knees) (seg : Segment) (limit : ℕ) : Type 0 where
  pub exact : (e : ℕ) → e < net.events → fall_of seg.moves (seg.upper - limit) e ≤ seg.time e
  pub schedule : IsSchedule net terms limit (durations_for net terms seg limit) (times_for seg limit)
  pub ends : times_for seg limit net.end ≡ limit
  pub costs : cost_of terms knees (durations_for net terms seg limit) ≡ cost_for seg limit
  pub flow : IsFlow net knees seg.flow seg.beside seg.slope
  pub promised : promise terms knees seg.flow seg.beside ≡ cost_for seg limit + limit * seg.slope
  pub bound : bound_of terms knees seg.flow seg.beside seg.slope limit ≡ pos (cost_for seg limit)
  pub least : IsLeastCost net terms knees limit (cost_for seg limit)
  pub cut : cut_gain net knees seg ≡ pos seg.slope
