use Rattle.std.proofs.Common.{◌<◌, [], length, subst, sym, ap}
use Rattle.pc_project.specs.inside.Kept.{act_titles}
use Rattle.pc_project.proofs.CardPlaces.{act_there, said_there}
use Rattle.pc_project.proofs.project.Project.activity_title.Goals as goal

pub bounds-acts-a : goal.bounds-acts-a
bounds-acts-a c = subst (λ cards. c.args.a < length cards) (sym c.acts.ensures.cards) (act_there c.self.inside c.args.self.now c.self.view_is c.self.invariant c.args.a c.requires)

pub returns : goal.returns
returns c =
    said_there (λ card. card.title) c.self.inside.cards.acts c.acts.result.now _ c.args.a c.index-acts-a.result [] c.acts.ensures.cards
    (ap (λ p. act_titles p.deck) c.self.view_is) (act_there c.self.inside c.args.self.now c.self.view_is c.self.invariant c.args.a c.requires)
