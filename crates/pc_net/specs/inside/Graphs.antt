-- What a graph's fields say: a network, and the activities at each event.
use Rattle.std.specs.Prelude.{◌≤◌, length}
use Rattle.pc_model.specs.Network.{Network, IsInRange}
use Rattle.pc_model.specs.declared.limits.TheConstants.{MAX_EVENTS, MAX_ACTIVITIES}
use Rattle.pc_net.specs.declared.graph.Graph.TheInside.{Inside}
use Rattle.pc_net.specs.declared.graph.Side.TheVariants.{Begins, Ends}
use Rattle.pc_net.specs.inside.Sides.{events_of}
use Rattle.pc_net.specs.inside.Listings.{IsListing}
use Rattle.pc_net.specs.inside.Networks.{network}

-- the network of the fields
abbrev pub network_of_graph : Inside → Network
network_of_graph g = network g.events g.start g.end g.arcs.items

-- it is in range and within the limits, and each event has its activities in card order
pub record IsIndexed (g : Inside) : Type 0 where
  pub few_events : g.events ≤ MAX_EVENTS
  pub few_activities : length g.arcs.items ≤ MAX_ACTIVITIES
  pub in_range : IsInRange (network_of_graph g)
  pub outgoing : IsListing (events_of Begins g.arcs.items) g.events g.outgoing
  pub incoming : IsListing (events_of Ends g.arcs.items) g.events g.incoming
