-- The events at one end of the activities, one by one.
use Rattle.std.proofs.Common.{◌≡◌, ℕ, ◌<◌, List, length, slice_index, slice_index_or, subst, arith}
use Rattle.std.proofs.lemmas.List.{get_or-map, get_or_read, length-map}
use Rattle.pc_model.specs.declared.Arc.{Arc}
use Rattle.pc_model.specs.inside.Greatest.{IsListed}
use Rattle.pc_model.specs.Network.{Network}
use Rattle.pc_model.specs.Walk.{arc_at, from_of}
use Rattle.pc_net.specs.declared.graph.Side.{Side}
use Rattle.pc_net.specs.inside.Sides.{event_of, events_of, AreBelow}

-- the k-th of these events is that of the k-th activity
pub events_of_at : (side : Side) (arcs : List Arc) (k : ℕ) → k < length arcs → slice_index (events_of side arcs) k ≡ event_of side (arc_at arcs k)
events_of_at side arcs k below = get_or-map (event_of side) arcs k _ 0 below

-- there is one for each activity
pub length-events_of : (side : Side) (arcs : List Arc) → length (events_of side arcs) ≡ length arcs
length-events_of side arcs = length-map arcs (event_of side)

-- the event at that end of an activity is one of the network
pub event_known : (side : Side) (arcs : List Arc) (events k : ℕ) → AreBelow (events_of side arcs) events → k < length arcs → event_of side (arc_at arcs k) < events
event_known side arcs events k known below =
    omega (arith, known.each k (omega (arith, length-events_of side arcs)), events_of_at side arcs k below)

-- the activities listed at an event that was read from a list are those at this place of it
pub listed_where_read : (net : Network) (events : List ℕ) (at event : ℕ) (xs : List ℕ) → at < length events → event ≡ slice_index_or events at event →
    IsListed (λ a. from_of net.arcs a ≡ event) (length net.arcs) xs →
    IsListed (λ a. from_of net.arcs a ≡ slice_index events at) (length net.arcs) xs
listed_where_read net events at event xs queued read listed =
    subst (λ (e : ℕ). IsListed (λ a. from_of net.arcs a ≡ e) (length net.arcs) xs) (get_or_read events at event queued read 0) listed
