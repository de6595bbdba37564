-- What the fields of a network that was found sound say.
use Rattle.pc_model.specs.Network.{Network, IsInRange, IsSound, IsOrder}
use Rattle.pc_net.specs.declared.network.Net.TheInside.{Inside}

-- the network is that of its graph
abbrev pub graph_of : Inside → Network
graph_of net = net.graph

-- it is in range and sound, and all its events are in order
pub record IsOrdered (net : Inside) : Type 0 where
  pub in_range : IsInRange net.graph
  pub sound : IsSound net.graph
  pub order : IsOrder net.graph net.order.items
