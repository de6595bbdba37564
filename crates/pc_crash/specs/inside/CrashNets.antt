-- What the fields of a priced network say.
use Rattle.std.specs.Prelude.{length, map}
use Rattle.pc_model.specs.Network.{IsInRange, IsSound}
use Rattle.pc_model.specs.Pieces.{ArePieces}
use Rattle.pc_model.specs.Schedule.{AreTerms}
use Rattle.pc_crash.specs.declared.crash_net.CrashNet.TheInside.{Inside}
use Rattle.pc_crash.specs.inside.Laid.{AreLaid}
use Rattle.pc_crash.specs.inside.Links.{AreLinked}
use Rattle.pc_crash.specs.Priced.{PricedNetwork, ArePiecesWithinLimits}
use Rattle.pc_crash.specs.inside.Priced.{AreNames}
use Rattle.pc_crash.specs.Terms.{AreWithinLimits}

-- the priced network of the fields
abbrev pub priced_network : Inside → PricedNetwork
priced_network net = record {
  network = net.net.now;
  terms = map (λ row. row.term) net.layout.rows.items;
  pieces = net.pieces.items;
  project = net.codes.project;
  events = net.codes.events;
  activities = net.codes.activities;
}

-- what holds of every priced network: it is sound, its terms and pieces fit it and keep their limits, and all its events
-- and activities have names of their own
pub record IsWholeNetwork (net : PricedNetwork) : Type 0 where
  pub in_range : IsInRange net.network
  pub sound : IsSound net.network
  pub terms : AreTerms net.network net.terms
  pub limits : AreWithinLimits net.terms
  pub pieces : ArePieces net.terms net.pieces
  pub piece_limits : ArePiecesWithinLimits net.pieces
  pub events : AreNames net.network.events net.events
  pub activities : AreNames (length net.network.arcs) net.activities

-- the fields are those of a complete priced network, laid out, with the activities at each event linked
pub record IsWholeInside (net : Inside) : Type 0 where
  pub whole : IsWholeNetwork (priced_network net)
  pub laid : AreLaid net.net.now.arcs (priced_network net).terms net.pieces.items (length net.layout.rows.items) net.layout.rows.items net.layout.knees.items
  pub linked : AreLinked net.net.now.arcs net.net.now.events net.links.rows.items net.links.links.items
