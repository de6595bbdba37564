-- The ends of activities, and the events at one end of all of them.
use Rattle.std.specs.Prelude.{ℕ, ◌<◌, List, length, map, slice_index}
use Rattle.pc_model.specs.declared.Arc.{Arc}
use Rattle.pc_net.specs.declared.graph.Side.{Side}
use Rattle.pc_net.specs.declared.graph.Side.TheVariants.{Begins, Ends}

-- the event at that end of the activity
abbrev pub event_of : Side → Arc → ℕ
event_of Begins arc = arc.from
event_of Ends arc = arc.to

-- the events at that end of the activities, in card order
abbrev pub events_of : Side → List Arc → List ℕ
events_of side arcs = map (event_of side) arcs

-- each of them is below the number of events
pub record AreBelow (xs : List ℕ) (events : ℕ) : Type 0 where
  pub each : (k : ℕ) → k < length xs → slice_index xs k < events
