-- What is known of lines, from the rows that they say.
use Rattle.std.specs.Prelude.{ℕ, nat_lt, true, false, length, if◌then◌else◌}
use Rattle.pc_model.specs.Sums.{sum_to, at_event}
use Rattle.pc_model.specs.Walk.{from_of, to_of}
use Rattle.pc_model.specs.Cost.{activity_cost}
use Rattle.pc_laws.specs.Segment.{Segment, span, is_forward, is_backward, rises_above}
use Rattle.pc_laws.specs.Flow.{whole_flow}
use Rattle.pc_crash.specs.Priced.{PricedNetwork, knees_in}
use Rattle.pc_check.specs.Draft.{Part, Draft}
use Rattle.pc_check.specs.Segments.{segment_in, stops_in}
use Rattle.pc_check.specs.Known.{Known, some_below}
use Rattle.pc_check.specs.Walks.{length_in, walked, at_start}

-- what flows along activity a
abbrev pub flow_along : PricedNetwork → Part → ℕ → ℕ
flow_along net part a = whole_flow (knees_in net) (segment_in net part).flow (segment_in net part).beside a

-- the sum of the flows along those activities so far that have an event at one of their ends
abbrev pub flow_at : PricedNetwork → Part → (ℕ → ℕ) → ℕ → ℕ
flow_at net part event_of e = if nat_lt e net.network.events then at_event (length part.acts) event_of (flow_along net part) e else 0

-- what the activities so far cost at their durations
abbrev pub spent_in : PricedNetwork → Part → ℕ
spent_in net part = sum_to (length part.acts) (λ a. activity_cost net.terms (knees_in net) a ((segment_in net part).duration a))

-- the rises of activity a's knees above its gap at the lower end, if it is forward
abbrev pub forward_by : PricedNetwork → Segment → ℕ → ℕ
forward_by net seg a = if is_forward net.network.arcs seg.moves a then rises_above net.network (knees_in net) seg (span seg) a else 0

-- the rises of activity a's knees above its gap at the upper end, if it is backward
abbrev pub backward_by : PricedNetwork → Segment → ℕ → ℕ
backward_by net seg a = if is_backward net.network.arcs seg.moves a then rises_above net.network (knees_in net) seg 0 a else 0

-- what is known of lines with this draft
abbrev pub said : PricedNetwork → Draft → Known
said net draft = record {
  normal = walked net (length_in net false) (at_start net.network) draft.normal;
  crash = walked net (length_in net true) (at_start net.network) draft.crash;
  crash_walk_started = draft.crash_walk_started;
  segments = length draft.segments;
  upper = draft.part.upper;
  lower = draft.part.lower;
  cost = draft.part.cost;
  slope = draft.part.slope;
  events = length draft.part.events;
  time = (segment_in net draft.part).time;
  moves = (segment_in net draft.part).moves;
  acts = length draft.part.acts;
  inflow = flow_at net draft.part (to_of net.network.arcs);
  outflow = flow_at net draft.part (from_of net.network.arcs);
  spent = spent_in net draft.part;
  forward = sum_to (length draft.part.acts) (forward_by net (segment_in net draft.part));
  backward = sum_to (length draft.part.acts) (backward_by net (segment_in net draft.part));
  stops = some_below (length draft.part.acts) (stops_in net (segment_in net draft.part));
}
