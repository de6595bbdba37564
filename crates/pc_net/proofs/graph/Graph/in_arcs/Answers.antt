use Rattle.std.proofs.Common.{◌<◌, sym, subst}
use Rattle.pc_model.specs.Network.{Network}
use Rattle.pc_net.specs.declared.graph.Side.TheVariants.{Ends}
use Rattle.pc_net.proofs.ListingLaws.{part_is_listed}
use Rattle.pc_net.proofs.graph.Graph.in_arcs.Goals as goal

pub returns-clause-listed : goal.returns-clause-listed
returns-clause-listed c =
    let g = c.self.inside in
    let below : c.args.e < g.events = subst (λ (net : Network). c.args.e < net.events) (sym c.self.view_is) c.requires in
    rw (← c.self.view_is, c.at.ensures) (part_is_listed Ends g.arcs.items g.events g.incoming c.args.e c.self.invariant.incoming below)
