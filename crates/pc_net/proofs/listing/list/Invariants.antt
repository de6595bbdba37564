use Rattle.std.proofs.Common.{◌-◌, length}
use Rattle.pc_net.specs.inside.Sides.{events_of}
use Rattle.pc_net.specs.inside.Listings.{AreListed}
use Rattle.pc_net.proofs.ListingLaws.{IsFollowed}
use Rattle.pc_net.proofs.listing.list.Given as goal

abbrev pub invariant-chain : goal.invariant-chain
invariant-chain l = IsFollowed (events_of l.fn.side l.arcs) l.head-index l.at l.initial.items.items l.items.items

abbrev pub decreases-chain : goal.decreases-chain
decreases-chain l = length l.arcs - l.at

abbrev pub invariant-events : goal.invariant-events
invariant-events l = AreListed (events_of l.fn.side l.arcs) l.head-index l.items.items l.starts.items
