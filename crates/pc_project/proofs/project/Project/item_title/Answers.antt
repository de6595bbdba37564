use Rattle.std.proofs.Common.{◌<◌, [], length, subst, sym, ap}
use Rattle.pc_project.proofs.CardPlaces.{item_there, said_there}
use Rattle.pc_project.proofs.project.Project.item_title.Goals as goal

pub bounds-items-i : goal.bounds-items-i
bounds-items-i c = subst (λ cards. c.args.i < length cards) (sym c.items.ensures.cards) (item_there c.self.inside c.args.self.now c.self.view_is c.self.invariant c.args.i c.requires)

pub returns : goal.returns
returns c =
    said_there (λ card. card.title) c.self.inside.cards.items c.items.result.now _ c.args.i c.index-items-i.result [] c.items.ensures.cards
    (ap (λ p. p.titles) c.self.view_is) (item_there c.self.inside c.args.self.now c.self.view_is c.self.invariant c.args.i c.requires)
