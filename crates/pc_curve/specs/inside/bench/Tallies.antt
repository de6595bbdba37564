-- The figures of the segments of a curve, added one after another.
use Rattle.std.specs.Prelude.{ℕ, ◌+◌, ◌-◌, ◌*◌, ◌^◌, ◌<◌, ◌≤◌, ◌==◌, if◌then◌else◌}
use Rattle.pc_model.specs.Sums.{sum_to}
use Rattle.pc_laws.specs.Segment.{Segment, cost_for, span}
use Rattle.pc_flow.specs.declared.early.TheConstants.{MAX_LENGTH}
use Rattle.pc_curve.specs.declared.bench.figures.CurveTally.{CurveTally}

-- the sum of the costs of all lengths of the segment below its upper end
abbrev pub costs_below : Segment → ℕ
costs_below seg = sum_to (span seg) (λ k. cost_for seg (seg.upper - (k + 1)))

-- the figures of the first segment
abbrev pub first_tally : Segment → CurveTally
first_tally seg = record { slope = seg.slope; breaks = 1; sum = seg.cost + costs_below seg }

-- and the figures with one more: if the slope changes, the curve breaks
abbrev pub next_tally : CurveTally → Segment → CurveTally
next_tally tally seg = record {
  slope = seg.slope;
  breaks = tally.breaks + (if tally.slope == seg.slope then 0 else 1);
  sum = tally.sum + costs_below seg;
}

-- the numbers of a segment are so small that sums of costs fit
pub record IsSmallSegment (seg : Segment) : Type 0 where
  pub cost : seg.cost < 10 ^ 18
  pub slope : seg.slope < 10 ^ 18
  pub upper : seg.upper ≤ MAX_LENGTH
  pub ordered : seg.lower ≤ seg.upper

-- no length of a segment with small numbers costs more
abbrev pub most_cost : ℕ
most_cost = 2 * 10 ^ 27

-- a tally has capacity for another segment
pub record CanTakeSegment (tally : CurveTally) (seg : Segment) : Type 0 where
  pub breaks : tally.breaks ≤ MAX_LENGTH + 1
  pub sum : tally.sum ≤ MAX_LENGTH * most_cost + most_cost
