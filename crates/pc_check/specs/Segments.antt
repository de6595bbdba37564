-- The segment that the rows of a part make.
use Rattle.std.specs.Prelude.{ℕ, ◌+◌, ◌==◌, Bool, ◌&&◌, ◌||◌, nat_lt, slice_index}
use Rattle.pc_model.specs.Schedule.{crash_of}
use Rattle.pc_laws.specs.Segment.{Segment, span, head_at, tail_at, is_forward, is_backward}
use Rattle.pc_crash.specs.Priced.{PricedNetwork, knees_in}
use Rattle.pc_check.specs.Known.{some_below}
use Rattle.pc_check.specs.Draft.{Part, event_at, act_at}

-- the segment that a part is, or begins to be: the k-th flow of an activity is that of its k-th knee, and the last one that on its crash duration
abbrev pub segment_in : PricedNetwork → Part → Segment
segment_in net part = record {
  upper = part.upper;
  lower = part.lower;
  cost = part.cost;
  slope = part.slope;
  time = λ e. (event_at part.events e).time;
  moves = λ e. (event_at part.events e).moves;
  duration = λ a. (act_at part.acts a).duration;
  flow = λ a k. slice_index (act_at part.acts a).flows k;
  beside = λ a. slice_index (act_at part.acts a).flows ((knees_in net).count a);
}

-- whether activity a stops at its k-th knee: its gap is there at the lower end, and above it or below it at the upper end as
-- it is forward or backward
abbrev pub stops_at_knee_in : PricedNetwork → Segment → ℕ → ℕ → Bool
stops_at_knee_in net seg a k =
    head_at net.network.arcs seg (span seg) a == tail_at net.network.arcs seg (span seg) a + (knees_in net).knee a k
    && ((is_forward net.network.arcs seg.moves a && nat_lt (tail_at net.network.arcs seg 0 a + (knees_in net).knee a k) (head_at net.network.arcs seg 0 a))
    || (is_backward net.network.arcs seg.moves a && nat_lt (head_at net.network.arcs seg 0 a) (tail_at net.network.arcs seg 0 a + (knees_in net).knee a k)))

-- whether activity a stops at the lower end: it is forward and its gap there is crash, or it stops at a knee
abbrev pub stops_in : PricedNetwork → Segment → ℕ → Bool
stops_in net seg a =
    (is_forward net.network.arcs seg.moves a && head_at net.network.arcs seg (span seg) a == tail_at net.network.arcs seg (span seg) a + crash_of net.terms a)
    || some_below ((knees_in net).count a) (stops_at_knee_in net seg a)
