-- The state of a checker, as what is known of the lines so far.
use Rattle.std.specs.Prelude.{false, length, slice_index, slice_index_or}
use Rattle.pc_laws.specs.Segment.{Segment}
use Rattle.pc_check.specs.declared.kept.Kept.{Kept}
use Rattle.pc_check.specs.declared.kept.Tally.{Tally}
use Rattle.pc_check.specs.Known.{Known}

-- the segment that has begun, without what its activities do
abbrev pub stretch_of : Tally → Segment
stretch_of tally = record {
  upper = tally.upper;
  lower = tally.lower;
  cost = tally.cost;
  slope = tally.slope;
  time = slice_index tally.times.items;
  moves = λ e. slice_index_or tally.moves.items e false;
  duration = λ a. 0;
  flow = λ a k. 0;
  beside = λ a. 0;
}

-- what is known of the lines
abbrev pub known_by : Kept → Known
known_by kept = record {
  normal = kept.normal;
  crash = kept.crash;
  crash_walk_started = kept.crash_walk_started;
  segments = kept.segments;
  upper = kept.tally.upper;
  lower = kept.tally.lower;
  cost = kept.tally.cost;
  slope = kept.tally.slope;
  events = length kept.tally.times.items;
  time = slice_index kept.tally.times.items;
  moves = λ e. slice_index_or kept.tally.moves.items e false;
  acts = kept.tally.acts;
  inflow = slice_index kept.tally.inflow.items;
  outflow = slice_index kept.tally.outflow.items;
  spent = kept.tally.spent;
  forward = kept.tally.cut.forward;
  backward = kept.tally.cut.backward;
  stops = kept.tally.cut.stops;
}
