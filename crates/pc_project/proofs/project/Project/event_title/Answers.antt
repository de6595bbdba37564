use Rattle.std.proofs.Common.{◌<◌, [], length, subst, sym, ap}
use Rattle.pc_project.specs.inside.Kept.{event_titles}
use Rattle.pc_project.proofs.CardPlaces.{event_there, said_there}
use Rattle.pc_project.proofs.project.Project.event_title.Goals as goal

pub bounds-events-e : goal.bounds-events-e
bounds-events-e c = subst (λ cards. c.args.e < length cards) (sym c.events.ensures.cards) (event_there c.self.inside c.args.self.now c.self.view_is c.self.invariant c.args.e c.requires)

pub returns : goal.returns
returns c =
    said_there (λ card. card.title) c.self.inside.cards.events c.events.result.now _ c.args.e c.index-events-e.result [] c.events.ensures.cards
    (ap (λ p. event_titles p.deck) c.self.view_is) (event_there c.self.inside c.args.self.now c.self.view_is c.self.invariant c.args.e c.requires)
