use Rattle.std.proofs.Common.{◌<◌, [], length, subst, sym, ap}
use Rattle.pc_project.specs.inside.Kept.{account_titles}
use Rattle.pc_project.proofs.CardPlaces.{account_there, said_there}
use Rattle.pc_project.proofs.project.Project.account_title.Goals as goal

pub bounds-accounts-a : goal.bounds-accounts-a
bounds-accounts-a c = subst (λ cards. c.args.a < length cards) (sym c.accounts.ensures.cards) (account_there c.self.inside c.args.self.now c.self.view_is c.self.invariant c.args.a c.requires)

pub returns : goal.returns
returns c =
    said_there (λ card. card.title) c.self.inside.cards.accounts c.accounts.result.now _ c.args.a c.index-accounts-a.result [] c.accounts.ensures.cards
    (ap (λ p. account_titles p.deck) c.self.view_is) (account_there c.self.inside c.args.self.now c.self.view_is c.self.invariant c.args.a c.requires)
