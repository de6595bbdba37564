-- What the conditions ask of the lines so far.
use Rattle.std.specs.Prelude.{ℕ, zero, suc, Bool, true, false, ◌&&◌, ◌||◌, Option}
use Rattle.pc_laws.specs.Segment.{Segment}
use Rattle.pc_check.specs.declared.walk.Reached.{Reached}

-- whether each number below a count passes a test
abbrev pub each_below : ℕ → (ℕ → Bool) → Bool
each_below zero test = true
each_below (suc n) test = each_below n test && test n

-- whether some number below a count passes a test
abbrev pub some_below : ℕ → (ℕ → Bool) → Bool
some_below zero test = false
some_below (suc n) test = some_below n test || test n

-- what is known of lines
pub record Known : Type 0 where
  -- how far the two walks lead, and whether the steps of the normal one are all there
  pub normal : Option Reached
  pub crash : Option Reached
  pub crash_walk_started : Bool
  -- how many segments are complete
  pub segments : ℕ
  -- the ends, the cost and the slope of the last segment that has begun
  pub upper : ℕ
  pub lower : ℕ
  pub cost : ℕ
  pub slope : ℕ
  -- how many of its events there were, their times, and whether they move
  pub events : ℕ
  pub time : ℕ → ℕ
  pub moves : ℕ → Bool
  -- how many of its activities there were, and what flows into each event and out of it along these
  pub acts : ℕ
  pub inflow : ℕ → ℕ
  pub outflow : ℕ → ℕ
  -- what they cost at their durations, the rises of the forward ones' knees above their gaps at the lower end, those of
  -- the backward ones' knees above their gaps at the upper end, and whether one of them stops at the lower end
  pub spent : ℕ
  pub forward : ℕ
  pub backward : ℕ
  pub stops : Bool

-- the segment that has begun, without what its activities do
abbrev pub frame : Known → Segment
frame known = record {
  upper = known.upper;
  lower = known.lower;
  cost = known.cost;
  slope = known.slope;
  time = known.time;
  moves = known.moves;
  duration = λ a. 0;
  flow = λ a k. 0;
  beside = λ a. 0;
}
