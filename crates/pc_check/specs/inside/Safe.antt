-- What keeps the sums of a checker within their types, and its lists as long as the network asks.
use Rattle.std.specs.Prelude.{◌≡◌, ℕ, ◌+◌, ◌*◌, ◌^◌, ◌<◌, ◌≤◌, ◌||◌, false, List, [], length, slice_index, vec_capacity, if◌then◌else◌}
use Rattle.pc_model.specs.Cost.{activity_cost}
use Rattle.pc_model.specs.Sums.{sum_to, at_event}
use Rattle.pc_model.specs.Walk.{from_of, to_of}
use Rattle.pc_laws.specs.Segment.{Segment, span, is_forward, is_backward, rises_above}
use Rattle.pc_crash.specs.Priced.{PricedNetwork, knees_in}
use Rattle.pc_check.specs.declared.cut.Cut.{Cut}
use Rattle.pc_check.specs.declared.kept.Tally.{Tally}
use Rattle.pc_check.specs.declared.fast.passed.Passed.{Passed}
use Rattle.pc_check.specs.inside.Kept.{stretch_of}
use Rattle.pc_check.specs.inside.KneeTests.{flow_sum}
use Rattle.pc_check.specs.inside.fast.Passed.{ArePassed, passed_at, passed_flow, passed_cost}
use Rattle.pc_check.specs.Segments.{stops_in}

-- sums by event of what flows along all activities, each as its line said that passed last: into the events where `event_of` is an
-- activity's ending event, and out of them if it is the beginning one
abbrev pub AreSums : PricedNetwork → List Passed → (ℕ → ℕ) → List ℕ → Type 0
AreSums net rows event_of sums = (e : ℕ) → e < net.network.events → slice_index sums e ≡ at_event (length net.network.arcs) event_of (passed_flow rows) e

-- there is capacity for all events, the count of activities is at most the network's, the row stored for each has
-- passed, the sums of flows and of the cost are those over all rows, and those of the cut are no larger than this many
-- activities can make them
pub record IsSafe (net : PricedNetwork) (tally : Tally) : Type 0 where
  pub times : net.network.events ≤ vec_capacity tally.times
  pub moves : net.network.events ≤ vec_capacity tally.moves
  pub entering : length tally.inflow.items ≡ net.network.events
  pub leaving : length tally.outflow.items ≡ net.network.events
  pub acts : tally.acts ≤ length net.network.arcs
  pub rows : ArePassed net tally.rows.items
  pub inflow : AreSums net tally.rows.items (to_of net.network.arcs) tally.inflow.items
  pub outflow : AreSums net tally.rows.items (from_of net.network.arcs) tally.outflow.items
  pub spent : tally.spent ≡ sum_to (length net.network.arcs) (passed_cost tally.rows.items)
  pub forward : tally.cut.forward ≤ tally.acts * 2 ^ 67
  pub backward : tally.cut.backward ≤ tally.acts * 2 ^ 67

-- the cut before any activity
abbrev pub no_cut : Cut
no_cut = record { forward = 0; backward = 0; stops = false }

-- a segment with these ends, before its rows
pub record IsBegun (u l c s : ℕ) (tally : Tally) : Type 0 where
  pub upper : tally.upper ≡ u
  pub lower : tally.lower ≡ l
  pub cost : tally.cost ≡ c
  pub slope : tally.slope ≡ s
  pub times : tally.times.items ≡ []
  pub moves : tally.moves.items ≡ []
  pub acts : tally.acts ≡ 0
  pub cut : tally.cut ≡ no_cut

-- sums by event with one number at one event in place of another
pub record IsExchanged (old new : List ℕ) (event before now : ℕ) : Type 0 where
  pub there : slice_index new event + before ≡ slice_index old event + now
  pub elsewhere : (e : ℕ) → (e ≡ event → ⊥) → slice_index new e ≡ slice_index old e
  pub same_length : length new ≡ length old

-- this flow and this cost are stored for activity a, and those of each other activity are as before
pub record IsRenewed (old new : List Passed) (a flows costs : ℕ) : Type 0 where
  pub flow : passed_flow new a ≡ flows
  pub cost : passed_cost new a ≡ costs
  pub others : (b : ℕ) → (b ≡ a → ⊥) → passed_at new b ≡ passed_at old b

-- one more activity was added, with its duration and its flows
pub record AddsAct (net : PricedNetwork) (old : Tally) (duration : ℕ) (flows : List ℕ) (new : Tally) : Type 0 where
  pub rest : new ≡ record old { acts = old.acts + 1; rows = new.rows; inflow = new.inflow; outflow = new.outflow; spent = new.spent; cut = new.cut }
  pub row : IsRenewed old.rows.items new.rows.items old.acts (flow_sum flows) (activity_cost net.terms (knees_in net) old.acts duration)
  pub forward : new.cut.forward ≡ old.cut.forward + (if is_forward net.network.arcs (stretch_of old).moves old.acts
      then rises_above net.network (knees_in net) (stretch_of old) (span (stretch_of old)) old.acts else 0)
  pub backward : new.cut.backward ≡ old.cut.backward + (if is_backward net.network.arcs (stretch_of old).moves old.acts then rises_above net.network (knees_in net) (stretch_of old) 0 old.acts else 0)
  pub stops : new.cut.stops ≡ (old.cut.stops || stops_in net (stretch_of old) old.acts)

-- what activity a adds to the cut: the rises of its knees above its gap, at the lower end if it is forward and at the upper end if it is
-- backward, and whether it stops at the lower end
pub record IsCutOf (net : PricedNetwork) (seg : Segment) (a : ℕ) (cut : Cut) : Type 0 where
  pub forward : cut.forward ≡ (if is_forward net.network.arcs seg.moves a then rises_above net.network (knees_in net) seg (span seg) a else 0)
  pub backward : cut.backward ≡ (if is_backward net.network.arcs seg.moves a then rises_above net.network (knees_in net) seg 0 a else 0)
  pub stops : cut.stops ≡ stops_in net seg a
  pub small_forward : cut.forward < 2 ^ 67
  pub small_backward : cut.backward < 2 ^ 67

-- the sums and the stop of the cut with what an activity adds
abbrev pub joined_cuts : Cut → Cut → Cut
joined_cuts cut more = record { forward = cut.forward + more.forward; backward = cut.backward + more.backward; stops = cut.stops || more.stops }
